use Rattle.ptpm_world.proofs.Common.{arith, ◌≡◌, ◌+◌, ◌++◌, true, false, None, Ok, ap, sym, ◌∙◌, string_bytes, left_in, is_divider, line_feed}
use Rattle.ptpm_world.specs.Lines.{latest_line}
use Rattle.ptpm_world.proofs.FaultLemmas.{err-on, outside}
use Rattle.ptpm_world.proofs.Playing.{FileFault, file-divider, file-end, file-first, file-more, file-size, file-text, next-is, none-is}
use Rattle.ptpm_world.proofs.ScriptLemmas.{kept-first, kept-on, read-divider, read-whole}
use Rattle.ptpm_world.proofs.script.read_text.Goals as goal

pub loop-text-init : goal.loop-text-init
loop-text-init g c = grind (arith, kept-first, file-first)

pub loop-text-preserved : goal.loop-text-preserved
loop-text-preserved g c =
    let line = latest_line c.read.new.self in
    let text = c.in_ok-line.ensures.text in
    let other : is_divider line ≡ false = ap is_divider (sym text) ∙ sym c.is_divider.ensures ∙ c.if-is_divider.false in
    let told = left_in g.R.Read.remaining c.args.script.now in
    let had = left_in g.R.Read.remaining c.loop-text.script in
    let has = left_in g.R.Read.remaining c.read.new.self in
    let n = c.loop-text.script.count + 1 in
    let counted : c.read.new.self.count ≡ n = c.in_ok-read.ensures.count (ap Ok c.if-branch.true) in
    let came = next-is n c.read.new.self.count None had has _ line c.if-branch.true c.in_ok-read.ensures.whole counted c.in_ok-line.ensures.none in
    record {
      kept = kept-on told had has n (string_bytes c.loop-text.text) line
          (string_bytes c.keep_line.new.text) c.loop-text.invariant.kept came other c.in_ok-keep_line.ensures.long
          (λ within. c.in_ok-keep_line.ensures.short within ∙ ap (λ l. (string_bytes c.loop-text.text ++ l) ++ line_feed) text);
      goes = file-more (c.args.script.now.count + 1) n (c.read.new.self.count + 1) line told had has c.loop-text.invariant.goes came other (ap (λ k. k + 1) counted);
    }

pub returns-then-is_divider-clause-text : goal.returns-then-is_divider-clause-text
returns-then-is_divider-clause-text g c =
    let line = latest_line c.read.new.self in
    let divider : is_divider line ≡ true = ap is_divider (sym c.in_ok-line.ensures.text) ∙ sym c.is_divider.ensures ∙ c.if-is_divider.true in
    let told = left_in g.R.Read.remaining c.args.script.now in
    let had = left_in g.R.Read.remaining c.loop-text.script in
    let has = left_in g.R.Read.remaining c.read.new.self in
    let first = c.args.script.now.count + 1 in
    let n = c.loop-text.script.count + 1 in
    let next = c.read.new.self.count + 1 in
    let counted : c.read.new.self.count ≡ n = c.in_ok-read.ensures.count (ap Ok c.if-branch.true) in
    let came = next-is n c.read.new.self.count None had has _ line c.if-branch.true c.in_ok-read.ensures.whole counted c.in_ok-line.ensures.none in
    read-divider told had has first n next (string_bytes c.loop-text.text) line c.loop-text.invariant.kept came divider
    (file-divider first n next line told had has c.loop-text.invariant.goes came divider (ap (λ k. k + 1) counted))

pub returns-clause-text : goal.returns-clause-text
returns-clause-text g c =
    let R = g.R.Read.remaining in
    let k = c.read.new.self.count + 1 in
    let none = none-is (c.loop-text.script.count + 1) (left_in R c.loop-text.script) (left_in R c.read.new.self) _ (latest_line c.read.new.self) c.if-branch.false c.in_ok-read.ensures.whole in
    read-whole (left_in R c.args.script.now) _ _ (c.args.script.now.count + 1) k (string_bytes c.loop-text.text) c.loop-text.invariant.kept none
    (file-end (c.args.script.now.count + 1) (c.loop-text.script.count + 1) k (left_in R c.args.script.now) _ _ c.loop-text.invariant.goes none
    (ap (λ j. j + 1) (c.in_ok-read.ensures.same (ap Ok c.if-branch.false))))

pub returns-in_err-read-clause-fault : goal.returns-in_err-read-clause-fault
returns-in_err-read-clause-fault g c = grind (arith, err-on, FileFault, file-size)

pub returns-in_err-line-clause-fault : goal.returns-in_err-line-clause-fault
returns-in_err-line-clause-fault g c = grind (arith, next-is, err-on, FileFault, file-text)

pub returns-in_err-keep_line-clause-fault : goal.returns-in_err-keep_line-clause-fault
returns-in_err-keep_line-clause-fault g c = grind (arith, err-on, FileFault, outside)
