-- A session is a sound process.
use Rattle.std.proofs.Common.{◌≡◌, refl, sym, false, List, [], ◌∷◌, Option, Some, None, not}
use Rattle.std.proofs.lemmas.Bool.{false≢true}
use Rattle.std.specs.Prelude.{is_some}
use Rattle.ptpm_manager.specs.declared.ask.Ask.{Ask}
use Rattle.ptpm_manager.specs.declared.error.BeginError.{BeginError}
use Rattle.ptpm_manager.specs.declared.error.GiveUpRefusal.{GiveUpRefusal}
use Rattle.ptpm_manager.specs.declared.receiving.Received.{Received}
use Rattle.ptpm_manager.specs.Receiving.{left_by, received_of}
use Rattle.ptpm_manager.specs.Session.{SessionValue, begin_refusal, give_up_refusal}
use Rattle.ptpm_saved.specs.Saving.{Event, IsAsIfPowered, IsSound, ReportsAsIfPowered, happen_all, noted_each, started}
use Rattle.ptpm_saved.specs.SavingSession.{Begins, GivesUp, Hears, IsToSend, SessionInput, SessionNote, begun_unless, given_up_unless, is_answer, session_changes, session_after, session_process, session_reports}
use Rattle.ptpm_saved.proofs.SavingLaws.{as_if_powered, reports_as_if_powered}
use Rattle.ptpm_manager.specs.declared.receiving.Received.TheVariants as received
use Rattle.ptpm_saved.proofs.laws.saving_session_law.Goals as goal

abbrev AnySession : SessionValue → Type 0
AnySession s = Unit {0}

begun_same : (refusal : Option BeginError) (s : SessionValue) (a : Ask) → not (is_some refusal) ≡ false → begun_unless refusal s a ≡ s
begun_same None s a same = absurd (false≢true (sym same))
begun_same (Some error) s a same = refl

given_up_same : (refusal : Option GiveUpRefusal) (s : SessionValue) → not (is_some refusal) ≡ false → given_up_unless refusal s ≡ s
given_up_same None s same = absurd (false≢true (sym same))
given_up_same (Some reason) s same = refl

left_same : (r : Received) (s : SessionValue) → is_answer r ≡ false → left_by s r ≡ s
left_same (received.Answered report) s same = absurd (false≢true (sym same))
left_same (received.Ignored reason) s same = refl

unchanged : (s : SessionValue) (x : SessionInput) → session_changes s x ≡ false → session_after s x ≡ s
unchanged s (Begins a) same = begun_same (begin_refusal s a) s a same
unchanged s IsToSend same = refl
unchanged s GivesUp same = given_up_same (give_up_refusal s) s same
unchanged s (Hears datagram) same = left_same (received_of s datagram) s same

-- only the last note counts
last_note : (notes : List SessionNote) (s : SessionValue) (n : SessionNote)
    → session_process.noted (noted_each session_process notes s) n ≡ session_process.noted s n
last_note [] s n = refl
last_note (m ∷ notes) s n = last_note notes (session_process.noted s m) n

session_sound : IsSound session_process AnySession
session_sound = record {
  unchanged = unchanged;
  goes_back = λ t notes can. last_note notes t (session_process.back t);
  after_can_be = λ t x can. tt;
  noted_can_be = λ t n can. tt;
}

session_as_if_powered : (s : SessionValue) (es : List (Event SessionInput SessionNote))
    → IsAsIfPowered session_process s es (happen_all session_process (started s) es)
session_as_if_powered s es = as_if_powered session_process session_reports AnySession session_sound s tt es

session_reports_as_if_powered : (s : SessionValue) (es : List (Event SessionInput SessionNote))
    → ReportsAsIfPowered session_reports session_process s es
session_reports_as_if_powered s es = reports_as_if_powered session_process session_reports AnySession session_sound s tt es

pub returns-clause-powered : goal.returns-clause-powered
returns-clause-powered c = session_as_if_powered

pub returns-clause-reports : goal.returns-clause-reports
returns-clause-reports c = session_reports_as_if_powered
