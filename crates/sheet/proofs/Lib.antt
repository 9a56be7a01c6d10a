mod Entering
mod Closing
mod Searches
