-- Every run is lawful.
use Rattle.rules.specs.Laws.{EveryRunIsLawful}
use Rattle.rules.proofs.Covers.{cover_kept}
use Rattle.rules.proofs.Grosses.{gross_kept}
use Rattle.rules.proofs.Lines.{orders_sound}
use Rattle.rules.proofs.Listed.{currencies_kept, lines_sound}
use Rattle.rules.proofs.Moments.{refusals_change_nothing}
use Rattle.rules.proofs.Notices.{notices_sound, notices_taken, notices_put_back, journal_numbered}
use Rattle.rules.proofs.Portfolios.{portfolios_sound}
use Rattle.rules.proofs.Refusals.{worst_case_is_least, margin_refusals}
use Rattle.rules.proofs.Room.{within_places}
use Rattle.rules.proofs.Untouched.{others_untouched, new_sheets_move_nothing}
use Rattle.rules.proofs.Worst.{worst_case_kept}

pub every_run_is_lawful : EveryRunIsLawful
every_run_is_lawful h C R = record {
  worst_case_kept = worst_case_kept h C R;
  cover_kept = cover_kept h R;
  gross_kept = gross_kept h R;
  worst_case_is_least = worst_case_is_least h C R;
  margin_refusals = margin_refusals h C R;
  others_untouched = others_untouched h R;
  refusals_change_nothing = refusals_change_nothing h;
  new_sheets_move_nothing = new_sheets_move_nothing h R;
  currencies_kept = currencies_kept h R;
  orders_sound = orders_sound h R;
  lines_sound = lines_sound h R;
  portfolios_sound = portfolios_sound h R;
  within_places = within_places h R;
  notices_sound = notices_sound h;
  notices_taken = notices_taken h R;
  notices_put_back = notices_put_back h R;
  journal_numbered = journal_numbered h;
}
