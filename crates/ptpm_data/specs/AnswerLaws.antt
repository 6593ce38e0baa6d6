-- A reply takes answers one after the other.
use Rattle.std.specs.Prelude.{◌≡◌, ◌+◌, List, [], ◌++◌, length}
use Rattle.std.proofs.Common.{◌∙◌, ap, append-nil, append_assoc, length-append, sym}
use Rattle.ptpm_data.specs.Reply.{Answer, ReplyValue}

-- the reply with these answers more
abbrev pub answered_more : ReplyValue → List Answer → ReplyValue
answered_more r xs = record { action = r.action; id = r.id; answers = r.answers ++ xs }

pub answered_none : (r : ReplyValue) → r ≡ answered_more r []
answered_none r = ap (λ (xs : List Answer). record { action = r.action; id = r.id; answers = xs }) (sym (append-nil r.answers))

pub answered_twice : (a b c : ReplyValue) (xs ys : List Answer)
    → b ≡ answered_more a xs
    → c ≡ answered_more b ys
    → c ≡ answered_more a (xs ++ ys)
answered_twice a b c xs ys first second =
    second ∙ ap (λ (r : ReplyValue). answered_more r ys) first
    ∙ ap (λ (zs : List Answer). record { action = a.action; id = a.id; answers = zs }) (append_assoc a.answers xs ys)

pub answered_count : (a b : ReplyValue) (xs : List Answer)
    → b ≡ answered_more a xs
    → length b.answers ≡ length a.answers + length xs
answered_count a b xs is = ap (λ (r : ReplyValue). length r.answers) is ∙ length-append a.answers xs
