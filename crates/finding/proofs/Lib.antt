mod InUse
