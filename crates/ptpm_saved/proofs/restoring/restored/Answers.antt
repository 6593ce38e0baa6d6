use Rattle.std.proofs.Common.{◌∙◌, ap, length, sym}
use Rattle.std.specs.FinMap.{entries}
use Rattle.ptpm_data.specs.Members.{DataSetsValue}
use Rattle.ptpm_saved.specs.Image.{saved_of}
use Rattle.ptpm_saved.specs.Restoring.{IsImageOf, kept_of, let_go}
use Rattle.ptpm_saved.proofs.BodyLemmas.{image_taken}
use Rattle.ptpm_saved.proofs.EntryOrder.{kept_all, none_gone}
use Rattle.ptpm_saved.proofs.restoring.restored.Goals as goal

pub put_back_judged-requires-clause-judged : goal.put_back_judged-requires-clause-judged
put_back_judged-requires-clause-judged g c =
    let r = c.in_ok-judge_into.ensures.judged in
    (r.0, r.1, ap (λ (d : DataSetsValue). length d.ports) (sym r.2 ∙ sym c.new-agent.ensures.sets))

pub returns-in-Err-clause-refused : goal.returns-in-Err-clause-refused
returns-in-Err-clause-refused g c = let r = c.in_ok-judge_into.ensures.judged in image_taken r.0 c.args.image.now r.1

pub returns-in-Ok-clause-back : goal.returns-in-Ok-clause-back
returns-in-Ok-clause-back g c = λ s saved image own ports known.
    let ms = (g.T.ReplyTable.owner c.args.table).managers in
    let is : IsImageOf (saved_of s) c.args.image.now = record { saved = saved; octets_are = image } in
    let same = c.new-agent.ensures.table in
    let read = c.in_ok-judge_into.ensures.found (saved_of s) is (own ∙ sym c.clock.ensures) ports in
    let put = c.in-Ok.ensures.kept (saved_of s) is (ap (λ (d : DataSetsValue). length d.ports) (sym read ∙ sym c.new-agent.ensures.sets)) in
    let sets = c.put_back_judged.ensures.sets ∙ c.new-agent.ensures.sets ∙ read in
    let kept = put.entries
    ∙ (λ i. kept_of (g.T.ReplyTable.owner (same i)).managers (entries s.entries) (g.T.ReplyTable.entries (same i)))
    ∙ ap (kept_of ms (entries s.entries)) c.requires.none ∙ kept_all ms s.entries known in
    let gone = put.gone_is ∙ (λ i. let_go (g.T.ReplyTable.owner (same i)).managers (entries s.entries))
    ∙ none_gone ms (entries s.entries) known in
    ((λ i. record { sets = sets i; entries = kept i }), gone)
