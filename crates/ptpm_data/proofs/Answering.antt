-- The reply and the data sets after a request, for an id of the table and for any other.
use Rattle.std.proofs.Common.{◌≤◌, ℕ, Bool, true, false, not, length, arith, refl, subst, Option, ◌≡◌, ◌∙◌, sym, ap, [], ◌∷◌, Some, None, map}
use Rattle.std.proofs.lemmas.List.{length-map}
use Rattle.std.proofs.lemmas.List.Filters.{length-filter_both}
use Rattle.std.proofs.lemmas.List.FromFn.{length-range_with_len}
use Rattle.std.specs.List.{range_with_len}
use Rattle.ptpm_codec.specs.declared.error.ErrorId.{ErrorId}
use Rattle.ptpm_data.specs.declared.rights.Rights.{Rights}
use Rattle.ptpm_data.specs.Changes.{changed_by, is_named, applied, changed_at, unless_refused}
use Rattle.ptpm_data.specs.ManagementId.{is_of_port, RowValue, row_value, row_of}
use Rattle.ptpm_data.specs.Members.{DataSetsValue}
use Rattle.ptpm_data.specs.Refusals.{refusal_of, row_refusal, refusal_at}
use Rattle.ptpm_data.specs.Replies.{named_ports, read_refusal, read_reply_to, reply_of, reply_to, answer, outcome, is_get}
use Rattle.ptpm_data.specs.Request.{RequestValue}
use Rattle.ptpm_data.specs.RequestLaws.{IsSized}
use Rattle.ptpm_data.proofs.Keeping.{changed_by-ports, changed_by-sized}
use Rattle.ptpm_data.proofs.ReplyLemmas.{answers_of}
use Rattle.std.specs.Option.{option_map}
use Rattle.ptpm_codec.specs.declared.error.ErrorId.TheVariants.{NoSuchId, NotSupported}
use Rattle.ptpm_codec.specs.Message.{reply_action}
use Rattle.ptpm_data.specs.declared.management_id.ManagementIdRow.{ManagementIdRow}
use Rattle.ptpm_data.specs.Reply.{Refused, ReplyValue}
use Rattle.ptpm_data.specs.Rights.{no_rights}
use Rattle.ptpm_data.specs.DataField.{data_field_of, field_of_row}
use Rattle.ptpm_data.specs.declared.management_id.Scope.TheVariants as scopes

-- ---- a reply has no more answers than the clock has ports

named_few : (port n : ℕ) → length (named_ports port n) ≤ n
unfolding named_ports
named_few port n =
    omega (arith, length-filter_both (is_named port) (λ k. not (is_named port k)) (λ k. refl) (range_with_len 1 n), length-range_with_len 1 n)

answers_few : (b : Bool) (q : RequestValue) (refusal : Option ErrorId) (d : DataSetsValue)
    → IsSized d
    → length (answers_of b q refusal d) ≤ length d.ports
answers_few true q refusal d s = grind (arith, length-map, named_few)
answers_few false q refusal d s = omega (arith, s.some_port)

pub reply_few : (q : RequestValue) (refusal : Option ErrorId) (d : DataSetsValue)
    → IsSized d
    → length (reply_of q refusal d).answers ≤ length d.ports
unfolding reply_of
reply_few q refusal d s = answers_few (is_of_port q.id) q refusal d s

pub new_few : (q : RequestValue) (rights : Rights) (d : DataSetsValue)
    → IsSized d
    → length (reply_to q rights d).answers ≤ length d.ports
unfolding reply_to
new_few q rights d s =
    subst (λ n. length (reply_of q (refusal_of q rights) (changed_by q rights d)).answers ≤ n) (changed_by-ports q rights d)
    (reply_few q (refusal_of q rights) (changed_by q rights d) (changed_by-sized q rights d s))

pub read_few : (q : RequestValue) (d : DataSetsValue)
    → IsSized d
    → length (read_reply_to q d).answers ≤ length d.ports
unfolding read_reply_to
read_few q d s = reply_few q (read_refusal q) d s

pub no_entry : {r : Option ManagementIdRow} {e : Option RowValue} → option_map row_value r ≡ e → r ≡ None → e ≡ None
no_entry {r = None} is gone = sym is
no_entry {r = Some row} is gone = cc

pub entry_is : {r : Option ManagementIdRow} {e : Option RowValue} {row : ManagementIdRow}
    → option_map row_value r ≡ e
    → r ≡ Some row
    → e ≡ Some (row_value row)
entry_is {r = None} is here = cc
entry_is {r = Some row} is here = cc

-- ---- an id of the table

-- the answer by what the table says of the id
pub answer_by_row : (q : RequestValue) (refusal : Option ErrorId) (d : DataSetsValue) (port : Option ℕ)
    (e : RowValue)
    → row_of q.id ≡ Some e
    → record { port = port; outcome = outcome refusal q.action (data_field_of e.layout port d) } ≡ answer q refusal d port
unfolding answer
answer_by_row q refusal d port e listed =
    ap (λ (r : Option RowValue). record { port = port; outcome = outcome refusal q.action (field_of_row r port d) }) (sym listed)

-- ---- an id that is not in the table

-- the clock refuses
abbrev pub refused_by_clock : RequestValue → ErrorId → ReplyValue
refused_by_clock q error = record {
  action = reply_action q.action;
  id = q.id;
  answers = record { port = None; outcome = Refused error } ∷ [];
}

pub reply_of-unlisted : (q : RequestValue) (error : ErrorId) (d : DataSetsValue)
    → row_of q.id ≡ None
    → refused_by_clock q error ≡ reply_of q (Some error) d
unfolding reply_of answer
reply_of-unlisted q error d e = rw e refl

pub reply_to-unlisted : (q : RequestValue) (rights : Rights) (d : DataSetsValue)
    → row_of q.id ≡ None
    → refused_by_clock q NoSuchId ≡ reply_to q rights d
unfolding reply_to
reply_to-unlisted q rights d e = reply_of-unlisted q NoSuchId _ e ∙ ap (λ (o : Option RowValue). reply_of q (refusal_at o q rights) (changed_by q rights d)) (sym e)

pub changed_by-unlisted : (q : RequestValue) (rights : Rights) (d : DataSetsValue)
    → row_of q.id ≡ None
    → d ≡ changed_by q rights d
unfolding changed_by
changed_by-unlisted q rights d e = rw e refl

-- ---- an id of the table

pub reply_to-listed : (q : RequestValue) (rights : Rights) (d : DataSetsValue) (e : RowValue)
    → row_of q.id ≡ Some e
    → reply_of q (row_refusal e q rights) (changed_by q rights d) ≡ reply_to q rights d
unfolding reply_to
reply_to-listed q rights d e is = ap (λ (o : Option RowValue). reply_of q (refusal_at o q rights) (changed_by q rights d)) (sym is)

pub changed_by-listed : (q : RequestValue) (rights : Rights) (d : DataSetsValue) (e : RowValue)
    → row_of q.id ≡ Some e
    → unless_refused (row_refusal e q rights) (applied e.layout q q.action d) d
    ≡ changed_by q rights d
unfolding changed_by
changed_by-listed q rights d e is = ap (λ (o : Option RowValue). changed_at o q rights d) (sym is)

pub refusal_of-unlisted : (q : RequestValue) (rights : Rights) → row_of q.id ≡ None → Some NoSuchId ≡ refusal_of q rights
refusal_of-unlisted q rights e = ap (λ (o : Option RowValue). refusal_at o q rights) (sym e)

pub refusal_of-listed : (q : RequestValue) (rights : Rights) (e : RowValue)
    → row_of q.id ≡ Some e
    → row_refusal e q rights ≡ refusal_of q rights
refusal_of-listed q rights e is = ap (λ (o : Option RowValue). refusal_at o q rights) (sym is)

-- ---- requests that are not numbered

module _ (q : RequestValue) (d : DataSetsValue) where
  pub read-unlisted : row_of q.id ≡ None
      → is_get q.action ≡ true
      → refused_by_clock q NoSuchId ≡ read_reply_to q d
  unfolding read_reply_to
  read-unlisted e get = rw (get, e) (reply_of-unlisted q NoSuchId d e)

  pub read-listed : (e : RowValue) (rights : Rights)
      → rights.0 ≡ 0
      → row_of q.id ≡ Some e
      → is_get q.action ≡ true
      → reply_of q (row_refusal e q rights) d ≡ read_reply_to q d
  unfolding read_reply_to
  read-listed e rights none is get =
      let same : rights ≡ no_rights = ap (λ (n : ℕ). let r : Rights = record { 0 = n } in r) none in
      rw (get, is, same) refl

  pub read-other : is_get q.action ≡ false → reply_of q (Some NotSupported) d ≡ read_reply_to q d
  unfolding read_reply_to
  read-other other = rw other refl

-- ---- by what the id is of

pub reply_of-clock : (q : RequestValue) (refusal : Option ErrorId) (d : DataSetsValue) (e : RowValue)
    → row_of q.id ≡ Some e
    → e.scope ≡ scopes.Clock
    → answer q refusal d None ∷ [] ≡ (reply_of q refusal d).answers
unfolding reply_of
reply_of-clock q refusal d e is clock = rw (is, clock) refl

pub reply_of-ports : (q : RequestValue) (refusal : Option ErrorId) (d : DataSetsValue) (e : RowValue)
    → row_of q.id ≡ Some e
    → e.scope ≡ scopes.Port
    → map (answer q refusal d) (map Some (named_ports q.port (length d.ports))) ≡ (reply_of q refusal d).answers
unfolding reply_of
reply_of-ports q refusal d e is ports = rw (is, ports) refl

pub reply_to-parts : (q : RequestValue) (rights : Rights) (d : DataSetsValue)
    → record { action = reply_action q.action; id = q.id; answers = (reply_to q rights d).answers } ≡ reply_to q rights d
unfolding reply_to reply_of
reply_to-parts q rights d = refl

pub read_reply_to-parts : (q : RequestValue) (d : DataSetsValue)
    → record { action = reply_action q.action; id = q.id; answers = (read_reply_to q d).answers } ≡ read_reply_to q d
unfolding read_reply_to reply_of
read_reply_to-parts q d = refl

pub ruleset decide_laws = (reply_to-parts, new_few)

pub ruleset read_laws = (read_reply_to-parts, read_few)
