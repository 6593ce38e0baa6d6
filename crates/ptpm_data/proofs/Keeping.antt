-- What a request that is not refused meets, and what it keeps of the data sets.
use Rattle.std.proofs.Common.{arith, ◌≡◌, refl, ℕ, Bool, true, not, List, length, Option, Some, None, false}
use Rattle.std.specs.Option.{is_some}
use Rattle.std.proofs.lemmas.Bool.{not-false}
use Rattle.std.proofs.lemmas.List.{length-map}
use Rattle.std.proofs.lemmas.List.FromFn.{length-enumerate_from}
use Rattle.ptpm_codec.specs.declared.message.Action.{Action}
use Rattle.ptpm_codec.specs.declared.error.ErrorId.{ErrorId}
use Rattle.ptpm_codec.proofs.RefusalLaws.{first_of-none}
use Rattle.ptpm_data.specs.declared.rights.Rights.{Rights}
use Rattle.ptpm_data.specs.declared.management_id.Layout.{Layout}
use Rattle.ptpm_data.specs.declared.data_sets.PortDataSet.{PortDataSet}
use Rattle.ptpm_data.specs.ManagementId.{RowValue, set_of, row_of}
use Rattle.ptpm_data.specs.Members.{DataSetsValue}
use Rattle.ptpm_data.specs.Request.{RequestValue}
use Rattle.ptpm_data.specs.Refusals.{row_refusal, is_length, is_value, refusal_of, is_set_value}
use Rattle.ptpm_data.specs.Changes.{applied, commanded, named_changed, set_members, changed_at, changed_by, grandmaster_changed, unless_refused}
use Rattle.std.specs.List.{Contains}
use Rattle.std.proofs.lemmas.List.Elements.{All-contains}
use Rattle.ptpm_data.specs.declared.precedence_change.PrecedenceChange.{PrecedenceChange}
use Rattle.ptpm_data.specs.declared.data_sets.ParentDataSet.{ParentDataSet}
use Rattle.ptpm_data.specs.Ranges.{is_description}
use Rattle.ptpm_data.specs.Reply.{Refused, Answer}
use Rattle.ptpm_data.specs.Replies.{answer, outcome, reply_to}
use Rattle.ptpm_data.specs.RequestLaws.{IsSized}
use Rattle.ptpm_data.proofs.ReplyLemmas.{reply_of-all}
use Rattle.ptpm_data.proofs.StartLemmas.{description_small}
use Rattle.ptpm_codec.specs.declared.message.Action.TheVariants as actions
use Rattle.ptpm_data.specs.declared.management_id.Layout.TheVariants as layouts

-- ---- what a request that is not refused meets, and what carrying it out keeps

-- ---- the tests of a request that is not refused

-- the dataField of a request that is not refused suits its id
pub record Suits (layout : Layout) (q : RequestValue) : Type 0 where
  pub size : is_length q.action (set_of layout) q.octets ≡ true
  pub value : is_value q.action (set_of layout) q.octets ≡ true

pub suits_from : (e : RowValue) (q : RequestValue) (rights : Rights)
    → row_refusal e q rights ≡ None
    → Suits e.layout q
unfolding row_refusal
suits_from e q rights none = grind (arith, first_of-none, not-false)

-- ---- the number of ports

pub length-named_changed : (port : ℕ) (change : PortDataSet → PortDataSet) (ports : List PortDataSet)
    → length (named_changed port change ports) ≡ length ports
unfolding named_changed
length-named_changed port change ports = simp (length-map, length-enumerate_from)

pub applied-ports : (layout : Layout) (q : RequestValue) (action : Action) (d : DataSetsValue)
    → length (applied layout q action d).ports ≡ length d.ports
unfolding commanded set_members
applied-ports layout q actions.Set d = grind (arith, length-named_changed)
applied-ports layout q actions.Command d = grind (arith, length-named_changed)
applied-ports layout q _ d = refl

-- ---- a refusal that was found to be none

pub none_from : {r s : Option ErrorId} {b : Bool} → r ≡ s → is_some r ≡ not b → b ≡ true → s ≡ None
none_from {r = None} e is holds = cc
none_from {r = Some x} e is holds = cc

pub ruleset carry_out_laws = (suits_from, none_from, applied-ports)

-- ---- what a request keeps of the data sets

-- ---- what carrying out keeps

record Keeps (d e : DataSetsValue) : Type 0 where
  pub identity : e.default.identity ≡ d.default.identity
  pub parent_port : e.parent.parent_port ≡ d.parent.parent_port
  pub grandmaster : e.parent.grandmaster ≡ d.parent.grandmaster

same : (d : DataSetsValue) → Keeps d d
same d = record { identity = refl; parent_port = refl; grandmaster = refl }

shown_port : (b : Bool) (change : PrecedenceChange) (parent : ParentDataSet)
    → (grandmaster_changed b change parent).parent_port ≡ parent.parent_port
shown_port true change parent = refl
shown_port false change parent = refl

shown_grandmaster : (b : Bool) (change : PrecedenceChange) (parent : ParentDataSet)
    → (grandmaster_changed b change parent).grandmaster ≡ parent.grandmaster
shown_grandmaster true change parent = refl
shown_grandmaster false change parent = refl

applied-keeps : (layout : Layout) (q : RequestValue) (action : Action) (d : DataSetsValue)
    → Keeps d (applied layout q action d)
unfolding commanded set_members
applied-keeps layout q actions.Set d = grind (arith, shown_port, shown_grandmaster)
applied-keeps layout q actions.Command d = grind arith
applied-keeps layout q _ d = same d

-- ---- the text

commanded-text : (layout : Layout) (port : ℕ) (d : DataSetsValue)
    → (commanded layout port d).description ≡ d.description
unfolding commanded
commanded-text layouts.EnablePort port d = refl
commanded-text _ port d = refl

applied-sized : (layout : Layout) (q : RequestValue) (d : DataSetsValue)
    → Suits layout q
    → IsSized d
    → IsSized (applied layout q q.action d)
unfolding is_description is_set_value set_members set_of
applied-sized layout q d suits s = grind (arith, applied-keeps, applied-ports, description_small, commanded-text)

-- ---- the data sets after a request

module _ (P : DataSetsValue → Type 0) (q : RequestValue) (rights : Rights) (d : DataSetsValue) where
  unless : (e : RowValue) (r : Option ErrorId)
      → row_refusal e q rights ≡ r
      → P d
      → ((e : RowValue) → Suits e.layout q → P (applied e.layout q q.action d))
      → P (unless_refused r (applied e.layout q q.action d) d)
  unless e None is before after = after e (suits_from e q rights is)
  unless e (Some error) is before after = before

  changed : (o : Option RowValue)
      → P d
      → ((e : RowValue) → Suits e.layout q → P (applied e.layout q q.action d))
      → P (changed_at o q rights d)
  changed None before after = before
  changed (Some e) before after = unless e (row_refusal e q rights) refl before after

  pub changed_by-all : P d
      → ((e : RowValue) → Suits e.layout q → P (applied e.layout q q.action d))
      → P (changed_by q rights d)
  unfolding changed_by
  changed_by-all before after = changed (row_of q.id) before after

module _ (q : RequestValue) (rights : Rights) (d : DataSetsValue) where
  pub changed_by-identity : (changed_by q rights d).default.identity ≡ d.default.identity
  changed_by-identity =
      changed_by-all (λ e. e.default.identity ≡ d.default.identity) q rights d refl (λ e suits. (applied-keeps e.layout q q.action d).identity)

  pub changed_by-ports : length (changed_by q rights d).ports ≡ length d.ports
  changed_by-ports =
      changed_by-all (λ e. length e.ports ≡ length d.ports) q rights d refl (λ e suits. applied-ports e.layout q q.action d)

  pub changed_by-sized : IsSized d → IsSized (changed_by q rights d)
  changed_by-sized s = changed_by-all IsSized q rights d s (λ e suits. applied-sized e.layout q d suits s)

  got : (layout : Layout) (action : Action)
      → action ≡ actions.Get
      → applied layout q action d ≡ d
  got layout actions.Get get = refl
  got layout actions.Set get = cc
  got layout actions.Command get = cc
  got layout actions.Response get = cc
  got layout actions.Acknowledge get = cc

  pub changed_by-get : q.action ≡ actions.Get → changed_by q rights d ≡ d
  changed_by-get get = changed_by-all (λ e. e ≡ d) q rights d refl (λ e suits. got e.layout q.action get)

  -- ---- a refused request

  pub changed_by-refused : (error : ErrorId)
      → refusal_of q rights ≡ Some error
      → changed_by q rights d ≡ d
  unfolding changed_by
  changed_by-refused error is = grind arith

  is_refused : (r : Option ErrorId) (action : Action) (octets : List ℕ) (error : ErrorId)
      → outcome r action octets ≡ Refused error → r ≡ Some error
  is_refused (Some e) action octets error is = cc
  is_refused None actions.Get octets error is = cc
  is_refused None actions.Set octets error is = cc
  is_refused None actions.Command octets error is = cc
  is_refused None actions.Response octets error is = cc
  is_refused None actions.Acknowledge octets error is = cc

  pub refused_answer : (a : Answer) (error : ErrorId)
      → Contains (reply_to q rights d).answers a
      → a.outcome ≡ Refused error
      → changed_by q rights d ≡ d
  unfolding reply_to answer
  refused_answer a error among is =
      let P : Answer → Type 0 = λ x. x.outcome ≡ Refused error → refusal_of q rights ≡ Some error in
      let all = reply_of-all P q (refusal_of q rights) (changed_by q rights d) (λ port. is_refused (refusal_of q rights) q.action _ error) in grind (arith, changed_by-refused, All-contains)
