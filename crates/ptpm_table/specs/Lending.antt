-- What a table lends of what it keeps: the entry of one manager after another, in the order of their identities.
use Rattle.std.specs.Prelude.{◌≡◌, ◌<◌, ◌^◌, ℕ, Option, Some, None, All}
use Rattle.std.specs.FinMap.{get}
use Rattle.std.specs.declared.cmp.Ordering.TheVariants.{Less}
use Rattle.ptpm_codec.specs.declared.identity.PortIdentity.{PortIdentity}
use Rattle.ptpm_codec.specs.Identity.{identity_cmp}
use Rattle.ptpm_codec.specs.Message.{IsDataField, IsRequestAction, PortIdentityFits}
use Rattle.ptpm_data.specs.Reply as reply
use Rattle.ptpm_data.specs.Reply.{Answer, Outcome}
use Rattle.ptpm_table.specs.declared.lending.LentAnswer.{LentAnswer}
use Rattle.ptpm_table.specs.declared.lending.LentWhat.{LentWhat}
use Rattle.ptpm_table.specs.declared.lending.LentWhat.TheVariants as whats
use Rattle.ptpm_table.specs.Entries.{Entries, Entry, FitsRequest}

-- an entry, and the manager that it is of
pub record ManagerEntry : Type 0 where
  pub manager : PortIdentity
  pub entry : Entry

-- ---- the order of managers

-- a manager comes after another one; any does after none
abbrev pub IsAfter : Option PortIdentity → PortIdentity → Type 0
IsAfter None who = Unit {0}
IsAfter (Some other) who = identity_cmp other who ≡ Less

-- of the managers after this one, none has an entry
abbrev pub HasNoneAfter : Entries → Option PortIdentity → Type 0
HasNoneAfter entries after = (who : PortIdentity) → IsAfter after who → get entries who ≡ None

-- of the managers after this one that have an entry, it is the first
pub record IsNext (entries : Entries) (after : Option PortIdentity) (e : ManagerEntry) : Type 0 where
  pub kept : get entries e.manager ≡ Some e.entry
  pub comes_after : IsAfter after e.manager
  pub first : (who : PortIdentity) → IsAfter after who → identity_cmp who e.manager ≡ Less → get entries who ≡ None

-- ---- which entries a table can have

-- what `keep` asks for
pub record IsKeepable (e : Entry) : Type 0 where
  pub action : IsRequestAction e.request.action
  pub octets : IsDataField e.request.octets
  pub fits : FitsRequest e.request e.reply

abbrev pub AnswerFits : Answer → Type 0
AnswerFits a = (port : ℕ) → a.port ≡ Some port → port < 2 ^ 16

-- numbers of their types, and an identity of eight octets
pub record EntryFits (e : ManagerEntry) : Type 0 where
  pub manager : PortIdentityFits e.manager
  pub number : e.entry.number < 2 ^ 16
  pub id : e.entry.request.id < 2 ^ 16
  pub port : e.entry.request.port < 2 ^ 16
  pub answers : All AnswerFits e.entry.reply.answers

-- ---- answers

abbrev pub lent_outcome : LentWhat → Outcome
lent_outcome (whats.Value octets) = reply.Value octets.now
lent_outcome whats.Done = reply.Done
lent_outcome (whats.Refused error) = reply.Refused error

abbrev pub lent_answer : LentAnswer → Answer
lent_answer a = record { port = a.port; outcome = lent_outcome a.what }
