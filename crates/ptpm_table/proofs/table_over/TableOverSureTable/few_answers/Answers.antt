-- No kept reply has more answers than the table keeps.
use Rattle.std.proofs.Common.{arith, suc, ◌≡◌, ◌≤◌, ℕ, true, false, List, [], ◌∷◌, length, refl, subst, sym, ap, ◌∙◌}
use Rattle.std.proofs.lemmas.Bool.{cond-true, cond-false}
use Rattle.std.proofs.lemmas.List.Elements.{All-cons}
use Rattle.std.specs.FinMap.{empty, entries, entries-insert, from_entries, len-empty, len-entries}
use Rattle.std.specs.FinMap.Entries.{by_order, put}
use Rattle.std.specs.declared.cmp.Ordering.TheVariants.{Equal, Greater, Less}
use Rattle.ptpm_codec.specs.Identity.{identity_cmp}
use Rattle.ptpm_codec.specs.declared.identity.PortIdentity.{PortIdentity}
use Rattle.ptpm_table.specs.Entries.{Entry, HaveAnswers}
use Rattle.ptpm_table.specs.Slots.{HaveFew, used}
use Rattle.ptpm_table.specs.declared.slot.Slot.{Slot}
use Rattle.ptpm_table.proofs.Identities.{identities_total}
use Rattle.ptpm_table.proofs.table_over.TableOverSureTable.few_answers.Goals as goal

abbrev Few : ℕ → PortIdentity × Entry → Type 0
Few most e = length e.1.reply.answers ≤ most

-- among entries that have no more, one more
put_few : (most : ℕ) (who : PortIdentity) (e : Entry) (es : List (PortIdentity × Entry))
    → length e.reply.answers ≤ most
    → HaveAnswers most es
    → HaveAnswers most (put identity_cmp who e es)
put_few most who e [] one all = All-cons (Few most) (who, e) [] one all
put_few most who e (x ∷ es) one all =
    let here : Few most x = all 0 x (omega arith) in
    let rest : HaveAnswers most es = λ k y inside. all (suc k) y (omega (arith, inside)) in
    elim (identity_cmp who x.0) as (λ r. HaveAnswers most (by_order r ((who, e) ∷ x ∷ es) ((x.0, e) ∷ es) (x ∷ put identity_cmp who e es))) [
      | Less ↦ All-cons (Few most) (who, e) (x ∷ es) one all
      | Equal ↦ All-cons (Few most) (x.0, e) es one rest
      | Greater ↦ All-cons (Few most) x (put identity_cmp who e es) here (put_few most who e es one rest)
    ]

none_few : (most : ℕ) (es : List (PortIdentity × Entry)) → length es ≡ 0 → HaveAnswers most es
none_few most es none = λ k e inside. absurd (omega (arith, inside, none))

used_few : (most : ℕ) (ss : List Slot)
    → HaveFew most ss
    → HaveAnswers most (entries (from_entries {R = identity_cmp} (used ss)))
used_few most [] all = none_few most (entries (from_entries {R = identity_cmp} (used []))) (sym (len-entries (empty {X = Entry} {R = identity_cmp})) ∙ len-empty identity_cmp Entry)
used_few most (s ∷ ss) all =
    let rest : HaveAnswers most (entries (from_entries {R = identity_cmp} (used ss))) = used_few most ss (λ k t inside. all (suc k) t (omega (arith, inside))) in
    elim s.taken as (λ b. s.taken ≡ b → HaveAnswers most (entries (from_entries {R = identity_cmp} (used (s ∷ ss))))) [
      | true ↦ λ taken.
          let few : length s.kept.entry.reply.answers ≤ most = all 0 s (omega arith) taken in
          subst (λ (es : List (PortIdentity × Entry)). HaveAnswers most es)
          (sym (ap (λ es. entries (from_entries {R = identity_cmp} es)) (cond-true s.taken _ _ taken) ∙ entries-insert identities_total (from_entries (used ss)) s.kept.manager s.kept.entry))
          (put_few most s.kept.manager s.kept.entry (entries (from_entries {R = identity_cmp} (used ss))) few rest)
      | false ↦ λ free.
          subst (λ (es : List (PortIdentity × Entry)). HaveAnswers most es)
          (sym (ap (λ es. entries (from_entries {R = identity_cmp} es)) (cond-false s.taken _ _ free))) rest
    ] refl

pub returns : goal.returns
returns g c = used_few c.args.self.now.answers (g.M.SlotMemory.slots c.args.self.now.slots) c.args.self.now.have_few
