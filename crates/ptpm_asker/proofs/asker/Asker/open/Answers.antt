-- What is restored is long enough to be read, and has the first number that is read in it.
use Rattle.std.proofs.Common.{◌≡◌, ◌∙◌, ap, ℕ, true, not, ◌&&◌, nat_le, List, length, Option, Some, None}
use Rattle.std.proofs.lemmas.Bool.{and_parts, cond-true, not-false}
use Rattle.std.specs.Option.{option_or}
use Rattle.ptpm_codec.specs.declared.identity.ClockIdentity.{ClockIdentity}
use Rattle.ptpm_codec.specs.declared.identity.PortIdentity.{PortIdentity}
use Rattle.ptpm_codec.specs.Layout.{number_at, octet}
use Rattle.ptpm_data.proofs.StartLemmas.{passes}
use Rattle.ptpm_manager.specs.ImageReading.{session_at, setup_at}
use Rattle.ptpm_manager.specs.Restoring.{head_refusal, is_image, is_long, restore_refusal}
use Rattle.ptpm_manager.specs.Session.{SessionValue}
use Rattle.ptpm_asker.specs.declared.earlier.Earlier.{Earlier}
use Rattle.ptpm_asker.specs.declared.settings.Settings.{Settings}
use Rattle.ptpm_asker.specs.Asker.{at_rest, first_in, hops_in, opened}
use Rattle.ptpm_asker.specs.Question.{earlier_of}
use Rattle.ptpm_asker.proofs.asker.Asker.open.Goals as goal

second_none : {A : Type 0} (r s : Option A) → option_or r s ≡ None → s ≡ None
second_none None s h = h
second_none (Some x) s h = cc

image_long : (octets : List ℕ) → is_image octets ≡ true → is_long octets ≡ true
unfolding is_image
image_long octets h = (and_parts (is_long octets) _ (and_parts (is_long octets && _) _ h).0).0

restored-long : (me : PortIdentity) (target : ClockIdentity) (ports first : ℕ) (octets : List ℕ)
    → restore_refusal me target ports first octets ≡ None
    → is_long octets ≡ true
unfolding restore_refusal
restored-long me target ports first octets h =
    image_long octets (not-false _ (passes (not (is_image octets)) _ _ (second_none (head_refusal octets) _ h)).0)

first-read : (octets : List ℕ) → is_long octets ≡ true → first_in octets ≡ (session_at octets).setup.first
unfolding setup_at
first-read octets h =
    cond-true (nat_le 53 (length octets)) (number_at 31 octets) 0 (and_parts (nat_le 53 (length octets)) _ h).0

hops-read : (octets : List ℕ) → is_long octets ≡ true → hops_in octets ≡ (session_at octets).setup.hops
unfolding setup_at
hops-read octets h = cond-true (nat_le 53 (length octets)) (octet 33 octets) 0 (and_parts (nat_le 53 (length octets)) _ h).0

opened-so : (settings : Settings) (drawn : List ℕ) (s t : SessionValue) (first hops : ℕ) (what : Earlier)
    → s ≡ t
    → first ≡ t.setup.first
    → hops ≡ t.setup.hops
    → what ≡ earlier_of t.unanswered
    → at_rest settings drawn s first hops true what 0 ≡ opened settings drawn t
opened-so settings drawn s t first hops what p q r u =
    ap (λ (x : SessionValue). at_rest settings drawn x first hops true what 0) p
    ∙ (ap (λ (n : ℕ). at_rest settings drawn t n hops true what 0) q
    ∙ (ap (λ (n : ℕ). at_rest settings drawn t t.setup.first n true what 0) r
    ∙ ap (λ (e : Earlier). at_rest settings drawn t t.setup.first t.setup.hops true e 0) u))

pub of_image-earlier-requires : goal.of_image-earlier-requires
of_image-earlier-requires c = restored-long _ _ _ _ _ c.in_ok-session.ensures.permitted

pub returns-clause-opened : goal.returns-clause-opened
returns-clause-opened c =
    let long = restored-long _ _ _ _ _ c.in_ok-session.ensures.permitted in
    let first = c.first_in-first.ensures ∙ first-read c.args.image.now long in
    let hops = c.hops_in-hops.ensures ∙ hops-read c.args.image.now long in
    c.at_rest.ensures ∙ opened-so _ _ _ _ _ _ _ c.in_ok-session.ensures.restored first hops c.of_image-earlier.ensures
