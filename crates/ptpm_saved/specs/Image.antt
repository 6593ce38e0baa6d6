-- The image of a clock: the octets in which its data sets, and what is kept of each manager, survive the loss of power. A head
-- says what the image is of. Numbers of several octets have the highest octet first (this project's profile).
use Rattle.std.specs.Prelude.{ℕ, ◌+◌, List, ◌++◌, length, take, drop, ◌≤◌, IsTrue, [], ◌∷◌, max, Option, Some, None, ◌*◌}
use Rattle.std.specs.FinMap.{is_sorted}
use Rattle.std.specs.List.{All, flat_map}
use Rattle.byteorder.specs.Endian.{big_bytes}
use Rattle.ptpm_codec.specs.declared.identity.PortIdentity.{PortIdentity}
use Rattle.ptpm_codec.specs.Canonical.{port_identity_octets}
use Rattle.ptpm_codec.specs.Identity.{identity_cmp}
use Rattle.ptpm_codec.specs.Message.{error_number}
use Rattle.ptpm_data.specs.declared.ports.TheConstants.{INLINE_PORTS}
use Rattle.ptpm_data.specs.Image.{DataSetsFit, data_sets_octets}
use Rattle.ptpm_data.specs.Members.{DataSetsValue, IsConsistent}
use Rattle.ptpm_data.specs.Reply.{Answer, Outcome, ReplyValue}
use Rattle.ptpm_table.specs.declared.managers.TheConstants.{MOST_MANAGERS}
use Rattle.ptpm_table.specs.Entries.{Entry}
use Rattle.ptpm_table.specs.Lending.{EntryFits, IsKeepable}
use Rattle.ptpm_agent.specs.Turn.{State}
use Rattle.ptpm_manager.specs.Image.{image_head, request_image}
use Rattle.ptpm_saved.specs.declared.image.TheConstants.{ENTRY_OCTETS}
use Rattle.std.specs.FinMap as fin
use Rattle.ptpm_data.specs.Reply as reply

-- ---- what a place for octets has after some were written into it

-- these octets from the one at `at` on, and elsewhere what it had
unfoldable pub over : ℕ → List ℕ → List ℕ → List ℕ
over at octets place = take at place ++ octets ++ drop (at + length octets) place

-- ---- an entry

abbrev pub port_octets : Option ℕ → List ℕ
port_octets None = []
port_octets (Some port) = big_bytes 2 port

-- 0, the size of the dataField, and the dataField; 1 for the success of a COMMAND; or 2, and the managementErrorId
abbrev pub outcome_image : Outcome → List ℕ
outcome_image (reply.Value octets) = 0 ∷ length octets ∷ octets
outcome_image reply.Done = 1 ∷ []
outcome_image (reply.Refused error) = 2 ∷ big_bytes 2 (error_number error)

-- after the port that it is of, if it is of one
unfoldable pub answer_image : Answer → List ℕ
answer_image a = port_octets a.port ++ outcome_image a.outcome

unfoldable pub answers_image : List Answer → List ℕ
answers_image answers = flat_map answer_image answers

-- how many answers, and the answers
abbrev pub reply_image : ReplyValue → List ℕ
reply_image r = length r.answers ∷ answers_image r.answers

-- the manager, the request's sequenceId, the request, and how many answers the reply has
unfoldable pub front_image : PortIdentity × Entry → List ℕ
front_image e =
    port_identity_octets e.0 ++ big_bytes 2 e.1.number ++ request_image e.1.request ++ length e.1.reply.answers ∷ []

unfoldable pub entry_image : PortIdentity × Entry → List ℕ
entry_image e = front_image e ++ answers_image e.1.reply.answers

unfoldable pub entries_image : List (PortIdentity × Entry) → List ℕ
entries_image entries = flat_map entry_image entries

-- ---- the clock

-- what is saved of a clock: its data sets, and the entries of its managers, in the order of their identities
pub record SavedClock : Type 0 where
  pub sets : DataSetsValue
  pub entries : List (PortIdentity × Entry)

abbrev pub saved_of : State → SavedClock
saved_of s = record { sets = s.sets; entries = fin.entries s.entries }

-- an image of a session is of kind 2
abbrev pub clock_kind : ℕ
clock_kind = 1

-- the data sets, the number of entries, and the entries
unfoldable pub body_image : SavedClock → List ℕ
body_image c = data_sets_octets c.sets ++ length c.entries ∷ entries_image c.entries

unfoldable pub saved_image : SavedClock → List ℕ
saved_image c = image_head clock_kind (length (body_image c)) ++ body_image c

abbrev pub clock_image : State → List ℕ
clock_image s = saved_image (saved_of s)

-- ---- what a clock can have saved

-- how many answers of a reply a clock of these data sets keeps
abbrev pub answers_kept : DataSetsValue → ℕ
answers_kept d = max INLINE_PORTS (length d.ports)

-- an entry that a table would keep which keeps this many answers; its numbers are within their types
pub record EntryIsSound (most : ℕ) (e : PortIdentity × Entry) : Type 0 where
  pub keepable : IsKeepable e.1
  pub few : length e.1.reply.answers ≤ most
  pub fits : EntryFits (record { manager = e.0; entry = e.1 })

-- of MOST_MANAGERS managers at most, each once, in the order of their identities
pub record AreEntries (most : ℕ) (entries : List (PortIdentity × Entry)) : Type 0 where
  pub few : length entries ≤ MOST_MANAGERS
  pub ascending : IsTrue (is_sorted identity_cmp entries)
  pub sound : All (EntryIsSound most) entries

pub record IsSaved (c : SavedClock) : Type 0 where
  pub consistent : IsConsistent c.sets
  pub fits : DataSetsFit c.sets
  pub entries : AreEntries (answers_kept c.sets) c.entries

-- ---- how many octets a clock's image would have, if each entry had the most that one can have

abbrev pub widest : State → ℕ
widest s = 12 + length (data_sets_octets s.sets) + 1 + length (fin.entries s.entries) * ENTRY_OCTETS
