use Rattle.std.proofs.Common.{arith, ◌∙◌, ◌*◌, refl, sym, drop}
use Rattle.std.proofs.lemmas.List.{length-map}
use Rattle.ptpm_members.proofs.ParsingLemmas.{each_done, each_fault, each_of_all, each_put, texts}
use Rattle.ptpm_members.proofs.parsing.put_all.Goals as goal

pub loop-i-preserved : goal.loop-i-preserved
loop-i-preserved c =
    each_put c.args.fields.now c.args.words.now c.loop-i.field.items c.put_named.new.field.items c.loop-i.i _ _ (omega arith) c.in-Ok.ensures refl
    ∙ c.loop-i.invariant

pub returns-in-Err : goal.returns-in-Err
returns-in-Err c =
    sym (each_of_all c.args.fields.now (texts c.args.words.now) c.args.field.now.items (length-map c.args.words.now _ ∙ c.if-words-fields.false)
    ∙ sym c.loop-i.invariant
    ∙ each_fault c.args.fields.now c.args.words.now c.loop-i.field.items c.in-Err.fault c.loop-i.i _ _ (omega arith) c.in-Err.ensures refl)

pub returns : goal.returns
returns c =
    sym (each_of_all c.args.fields.now (texts c.args.words.now) c.args.field.now.items (length-map c.args.words.now _ ∙ c.if-words-fields.false)
    ∙ sym c.loop-i.invariant
    ∙ each_done c.args.fields.now (drop (2 * c.loop-i.i) (texts c.args.words.now)) c.loop-i.field.items c.loop-i.i c.loop-i-test.false)
