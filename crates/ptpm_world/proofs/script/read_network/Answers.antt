use Rattle.ptpm_world.proofs.Common.{arith, ◌≡◌, ℕ, ◌+◌, List, false, Ok, Err, ap, sym, ◌∙◌, IfSome, string_bytes, network_of, network_value, BothKnown, left_in, whole_lines, ends, in_network, is_outside, network_text, scripted_from}
use Rattle.ptpm_world.proofs.FaultLemmas.{err-on, on-err, on-ok}
use Rattle.ptpm_world.proofs.Playing.{some-is}
use Rattle.ptpm_world.proofs.ScriptLemmas.{file-bad, file-network}
use Rattle.ptpm_world.proofs.script.read_network.Goals as goal

pub returns-clause-network : goal.returns-clause-network
returns-clause-network g c =
    let told = left_in g.R.Read.remaining c.args.script.now in
    let left = left_in g.R.Read.remaining c.read_text.new.script in
    let n = c.args.script.now.count + 1 in
    let k = c.read_text.new.script.count + 1 in
    on-ok c.network_of_text.result (λ network. network_of c.as_str.result.now ≡ Ok (network_value network))
    (λ network. BothKnown told left (λ before after. (scripted_from n before ≡ in_network (Ok (network_value network)) k (whole_lines after)) × (network_of (network_text (whole_lines before)) ≡ Ok (network_value network))))
    c.network_of_text.ensures.network
    (λ network h. file-network told left n k (string_bytes c.in_ok-text.text) (Ok (network_value network)) c.in_ok-text.ensures.text
    (ap network_of (sym c.as_str.ensures.value) ∙ h))

pub returns-clause-fault : goal.returns-clause-fault
returns-clause-fault g c =
    let told = left_in g.R.Read.remaining c.args.script.now in
    let left = left_in g.R.Read.remaining c.read_text.new.script in
    let n = c.args.script.now.count + 1 in
    let k = c.read_text.new.script.count + 1 in
    on-err c.network_of_text.result (λ e. is_outside e ≡ false → (number : ℕ) (lines : List (List ℕ × List ℕ)) → in_network (network_of c.as_str.result.now) number lines ≡ ends (Err e))
    (λ e. is_outside e ≡ false → IfSome told (λ octets. scripted_from n octets ≡ ends (Err e)))
    c.network_of_text.ensures.fault
    (λ e h inside. file-bad told left n k (string_bytes c.in_ok-text.text) e c.in_ok-text.ensures.text
    (λ lines. ap (λ t. in_network (network_of t) k lines) (sym c.as_str.ensures.value) ∙ h inside k lines))

pub returns-in_err-text-clause-fault : goal.returns-in_err-text-clause-fault
returns-in_err-text-clause-fault g c = grind (arith, err-on, some-is)
