-- A clock that goes on from an image that may have what is under way; how such an image is put together and taken apart.
use Rattle.std.proofs.Common.{arith, ◌≡◌, ◌∙◌, ◌≤◌, ◌<◌, ◌+◌, ◌%◌, ◌/◌, ℕ, ap, refl, sym, List, [], ◌∷◌, ◌++◌, length, take, drop, append_assoc, drop-drop, length-append, true, All, ◌&&◌, ◌==◌, Bool, false, subst, Option, Some, None, Result, Ok, Err}
use Rattle.std.proofs.lemmas.List.{length-drop, length-take, take-append-drop}
use Rattle.std.proofs.Math.Seq.{drop-append_seam, take-append_seam}
use Rattle.ptpm_codec.specs.Layout.{number_at, octet}
use Rattle.ptpm_codec.proofs.OctetLaws.{number_at-octets}
use Rattle.ptpm_manager.specs.Image.{image_head, mark, image_version}
use Rattle.ptpm_saved.specs.SavingClock.{Datagram}
use Rattle.ptpm_host.specs.UnderWay.{under_way_front, under_way_image, IsUnderWayImage, has_under_way}
use Rattle.std.specs.FinMap.{entries}
use Rattle.ptpm_agent.specs.Turn.{State}
use Rattle.ptpm_table.specs.Entries.{is_known}
use Rattle.ptpm_table.specs.Managers.{identities}
use Rattle.ptpm_saved.specs.Image.{saved_of, SavedClock, saved_image}
use Rattle.ptpm_saved.proofs.EntryOrder.{kept_all, none_gone}
use Rattle.ptpm_host.specs.declared.clock.HostedClock.{HostedClock}
use Rattle.ptpm_host.specs.declared.settings.ManagerSettings.{ManagerSettings}
use Rattle.ptpm_host.specs.Clock.{state_in}
use Rattle.ptpm_host.specs.Restoring.{IsBack, CanRestore, CanRestoreWith, IsBackWith, IsRestoreRefused, IsUnderWayRefused, inside}
use Rattle.ptpm_host.specs.Settings.{configured}
use Rattle.std.specs.Prelude.{IfOk, MatchResult, bytes_eq, nat_le}
use Rattle.std.proofs.lemmas.Bool.{false≢true, le-leb}
use Rattle.ptpm_codec.specs.declared.identity.ClockIdentity.{ClockIdentity}
use Rattle.ptpm_saved.specs.Restoring.{IsImageOf, IsRefused}
use Rattle.ptpm_host.specs.declared.refusal.ClockRestoreRefusal.{ClockRestoreRefusal}
use Rattle.ptpm_host.specs.Coming.{ClockState}
use Rattle.ptpm_host.specs.SavingClock.{clock_state_in}
use Rattle.ptpm_saved.specs.declared.error.RestoreError.TheVariants as images
use Rattle.ptpm_host.specs.declared.refusal.ClockRestoreRefusal.TheVariants as refusals

-- ---- the image of a clock with what is under way, put together and taken apart

pub front_length : (size port count : ℕ) → length (under_way_front size port count) ≡ 16
unfolding under_way_front image_head
front_length size port count = refl

-- a size is written modulo 2 ^ 32
pub front_wraps : (n port count : ℕ) → under_way_front (n % 4294967296) port count ≡ under_way_front n port count
unfolding under_way_front image_head
front_wraps n port count =
    let a : n % 4294967296 / 16777216 % 256 ≡ n / 16777216 % 256 = omega arith in
    let b : n % 4294967296 / 65536 % 256 ≡ n / 65536 % 256 = omega arith in
    let c : n % 4294967296 / 256 % 256 ≡ n / 256 % 256 = omega arith in
    let d : n % 4294967296 % 256 ≡ n % 256 = omega arith in
    (λ i. mark ++ 3 ∷ 1 ∷ 0 ∷ 0 ∷ [] ++ a i ∷ b i ∷ c i ∷ d i ∷ port / 256 % 256 ∷ port % 256 ∷ count / 256 % 256 ∷ count % 256 ∷ [])

front_port : (size port count : ℕ) (rest : List ℕ) → port < 65536 → number_at 12 (under_way_front size port count ++ rest) ≡ port
unfolding under_way_front image_head
front_port size port count rest small = number_at-octets 12 (under_way_front size port count ++ rest) ∙ omega arith

front_count : (size port count : ℕ) (rest : List ℕ) → count < 65536 → number_at 14 (under_way_front size port count ++ rest) ≡ count
unfolding under_way_front image_head
front_count size port count rest small = number_at-octets 14 (under_way_front size port count ++ rest) ∙ omega arith

pub put_together : (image : List ℕ) (port count : ℕ)
    → take 16 image ≡ under_way_front ((4 + length (drop 16 image)) % 4294967296) port count
    → count ≤ length (drop 16 image)
    → image ≡ under_way_image (port, take count (drop 16 image)) (drop count (drop 16 image))
unfolding under_way_image under_way_front image_head
put_together image port count front fits =
    let rest = drop 16 image in
    let size : length (take count rest) ≡ count = omega (arith, length-take count rest) in
    let all : 4 + length (take count rest) + length (drop count rest) ≡ 4 + length rest = omega (arith, size, length-drop count rest) in
    sym (take-append-drop 16 image)
    ∙ (λ i. (front ∙ front_wraps (4 + length rest) port count ∙ (λ j. under_way_front (sym all j) port (sym size j))) i
    ++ sym (take-append-drop count rest) i)

pub image_length : (x : Datagram) (image : List ℕ) → length (under_way_image x image) ≡ 16 + length x.1 + length image
unfolding under_way_image under_way_front image_head
image_length x image =
    let head = under_way_front (4 + length x.1 + length image) x.0 (length x.1) in
    let all : length (under_way_image x image) ≡ length head + length (x.1 ++ image) = length-append head (x.1 ++ image) in
    all ∙ sum_is _ _ _ _ (front_length (4 + length x.1 + length image) x.0 (length x.1)) (length-append x.1 image)
  where
    sum_is : (h r n m : ℕ) → h ≡ 16 → r ≡ n + m → h + r ≡ 16 + n + m
    sum_is h r n m one other = omega (arith, one, other)

-- written into a place, the message first
pub written : (x : Datagram) (image place rest front new : List ℕ) (behind size start : ℕ)
    → front ≡ under_way_front behind x.0 (length x.1) ++ x.1
    → behind ≡ (4 + length x.1 + length image) % 4294967296
    → new ≡ image ++ drop size rest
    → rest ≡ drop start place
    → front ++ new ≡ under_way_image x image ++ drop (start + size) place
unfolding under_way_image under_way_front image_head
written x image place rest front new behind size start front_is behind_is new_is rest_is =
    let head = under_way_front (4 + length x.1 + length image) x.0 (length x.1) in
    let first : front ≡ head ++ x.1 =
    front_is ∙ ap (λ n. under_way_front n x.0 (length x.1) ++ x.1) behind_is
    ∙ ap (λ h. h ++ x.1) (front_wraps (4 + length x.1 + length image) x.0 (length x.1)) in
    let last : new ≡ image ++ drop (start + size) place =
    new_is ∙ ap (λ l. image ++ l) (ap (drop size) rest_is ∙ drop-drop size start place) in
    (λ i. first i ++ last i)
    ∙ append_assoc head x.1 (image ++ drop (start + size) place)
    ∙ ap (λ l. head ++ l) (sym (append_assoc x.1 image (drop (start + size) place)))
    ∙ sym (append_assoc head (x.1 ++ image) (drop (start + size) place))

-- an image with what is under way, taken apart
pub record AreParts (x : Datagram) (clock image : List ℕ) : Type 0 where
  pub long : 16 ≤ length image
  pub port : number_at 12 image ≡ x.0
  pub count : number_at 14 image ≡ length x.1
  pub front : take 16 image ≡ under_way_front ((4 + length (drop 16 image)) % 4294967296) x.0 (length x.1)
  pub fits : length x.1 ≤ length (drop 16 image)
  pub message : take (length x.1) (drop 16 image) ≡ x.1
  pub clock_is : drop (length x.1) (drop 16 image) ≡ clock

pub taken_apart : (x : Datagram) (clock image : List ℕ)
    → x.0 < 65536
    → length x.1 < 65536
    → image ≡ under_way_image x clock
    → AreParts x clock image
unfolding under_way_image under_way_front image_head
taken_apart x clock image small few is =
    let size = 4 + length x.1 + length clock in
    let front = under_way_front size x.0 (length x.1) in
    let rest = x.1 ++ clock in
    let sixteen : length front ≡ 16 = front_length size x.0 (length x.1) in
    let behind : drop 16 image ≡ rest = ap (drop 16) is ∙ ap (λ n. drop n (front ++ rest)) (sym sixteen) ∙ drop-append_seam front rest in
    let before : take 16 image ≡ front = ap (take 16) is ∙ ap (λ n. take n (front ++ rest)) (sym sixteen) ∙ take-append_seam front rest in
    let all : 4 + length (drop 16 image) ≡ size = omega (arith, ap length behind, length-append x.1 clock) in
    record {
      long = omega (arith, ap length is, length-append front rest, sixteen);
      port = ap (number_at 12) is ∙ front_port size x.0 (length x.1) rest small;
      count = ap (number_at 14) is ∙ front_count size x.0 (length x.1) rest few;
      front = before ∙ sym (front_wraps size x.0 (length x.1)) ∙ ap (λ n. under_way_front (n % 4294967296) x.0 (length x.1)) (sym all);
      fits = omega (arith, ap length behind, length-append x.1 clock);
      message = ap (take (length x.1)) behind ∙ take-append_seam x.1 clock;
      clock_is = ap (drop (length x.1)) behind ∙ drop-append_seam x.1 clock;
    }

-- ---- a clock that goes on from an image that may have what is under way

-- ---- a clock that goes on from what was saved of it, under managers that are all its own, is as it was

pub goes_on : (s : State) (managers : List ManagerSettings) (d : HostedClock) (gone : ℕ)
    → IsBack (saved_of s) managers d gone
    → All (λ e. is_known e.0 (identities (configured managers)) ≡ true) (entries s.entries)
    → (state_in d ≡ s) × (gone ≡ 0)
goes_on s managers d gone back known =
    let ms = identities (configured managers) in
    let kept = back.entries_are.entries ∙ kept_all ms s.entries known in
    ((λ i. record { sets = back.sets_are i; entries = kept i }), back.entries_are.gone_is ∙ none_gone ms (entries s.entries) known)

-- ---- what it says that it has

none_there : (a b d : Bool) → (a && (b && (false && d))) ≡ false
none_there true true d = refl
none_there true false d = refl
none_there false b d = refl

pub nothing_there : (c : SavedClock) (octets : List ℕ) → IsImageOf c octets → has_under_way octets ≡ false
unfolding has_under_way saved_image image_head
nothing_there c octets is =
    ap has_under_way is.octets_are
    ∙ none_there (nat_le 12 (length (saved_image c))) (bytes_eq (take 4 (saved_image c)) mark) (octet 5 (saved_image c) == image_version)

pub something_there : (ports : ℕ) (x : Datagram) (image octets : List ℕ) → IsUnderWayImage ports x image octets → has_under_way octets ≡ true
unfolding has_under_way under_way_image under_way_front image_head
something_there ports x image octets is =
    let long : 12 ≤ length (under_way_image x image) = omega (arith, image_length x image) in
    ap has_under_way is.octets_are ∙ ap (λ b. b && true) (le-leb _ _ long)

-- ---- refusals

module _ (identity : ClockIdentity) (ports : ℕ) (managers : List ManagerSettings) (octets : List ℕ) where
  module _ (x : Datagram) (image : List ℕ) (there : IsUnderWayImage ports x image octets)
      (alone : (y : Datagram) (other : List ℕ) → IsUnderWayImage ports y other octets → image ≡ other) where
    pub refused_inside : (e : ClockRestoreRefusal) → IsRestoreRefused identity ports managers image e → IsUnderWayRefused identity ports managers octets (inside e)
    refused_inside (refusals.Managers fault) is = is
    refused_inside refusals.IdentityIsZero is = is
    refused_inside refusals.OutOfMemory is = record { managers_fit = is.0; not_zero = is.1 }
    refused_inside (refusals.Image images.NotAnImage) is = (
      record { managers_fit = is.0; not_zero = is.1 },
      λ y other here. (images.NotAnImage, tt, subst (λ o. IsRefused identity ports o images.NotAnImage) (alone y other here) is.2),
    )
    refused_inside (refusals.Image images.OtherVersion) is = (
      record { managers_fit = is.0; not_zero = is.1 },
      λ y other here. (images.OtherVersion, tt, subst (λ o. IsRefused identity ports o images.OtherVersion) (alone y other here) is.2),
    )
    refused_inside (refusals.Image images.OtherKind) is = (
      record { managers_fit = is.0; not_zero = is.1 },
      λ y other here. (images.OtherKind, tt, subst (λ o. IsRefused identity ports o images.OtherKind) (alone y other here) is.2),
    )
    refused_inside (refusals.Image images.Damaged) is = (
      record { managers_fit = is.0; not_zero = is.1 },
      λ y other here. (images.Damaged, tt, subst (λ o. IsRefused identity ports o images.Damaged) (alone y other here) is.2),
    )
    refused_inside (refusals.Image images.OtherClock) is = (record { managers_fit = is.0; not_zero = is.1 }, (x, image, there, is.2))
    refused_inside (refusals.Image images.OtherPorts) is = (record { managers_fit = is.0; not_zero = is.1 }, (x, image, there, is.2))

-- ---- results

pub back_with : {T : Type 0} (r : Result (T × ℕ) ClockRestoreRefusal) (clock_of : T → HostedClock) (s : ClockState) (managers : List ManagerSettings)
    → MatchResult r (λ p. IsBackWith (saved_of s.state) s.under_way managers (clock_of p.0) p.1) (λ e. e ≡ refusals.OutOfMemory)
    → All (λ e. is_known e.0 (identities (configured managers)) ≡ true) (entries s.state.entries)
    → IfOk r (λ p. (clock_state_in (clock_of p.0) ≡ s) × (p.1 ≡ 0))
back_with (Ok p) clock_of s managers back known =
    let as_it_was = goes_on s.state managers (clock_of p.0) p.1 back.clock known in
    ((λ i. record { state = as_it_was.0 i; under_way = back.under_way_is i }), as_it_was.1)
back_with (Err e) clock_of s managers back known = tt

pub match_both : {A E : Type 0} (r : Result A E) (P N Q : A → Type 0) (F : E → Type 0)
    → ((a : A) → P a → N a → Q a)
    → MatchResult r P F
    → IfOk r N
    → MatchResult r Q F
match_both (Ok a) P N Q F maps is none = maps a is none
match_both (Err e) P N Q F maps is none = is

-- ---- which of the two it is

module _ (identity : ClockIdentity) (ports : ℕ) (managers : List ManagerSettings) (octets : List ℕ) (k : SavedClock) (Q : Option Datagram → Type 0) where
  pub found_with : (u : Option Datagram)
      → has_under_way octets ≡ true
      → ((x : Datagram) → CanRestoreWith identity ports managers octets k (Some x) → Q (Some x))
      → CanRestoreWith identity ports managers octets k u
      → Q u
  found_with None has each can = absurd (false≢true (sym (nothing_there k octets can.image_of) ∙ has))
  found_with (Some x) has each can = each x can

  pub found_alone : (u : Option Datagram)
      → has_under_way octets ≡ false
      → (CanRestore identity ports managers octets k → Q None)
      → CanRestoreWith identity ports managers octets k u
      → Q u
  found_alone None has alone can = alone can
  found_alone (Some x) has alone can = absurd (false≢true (sym has ∙ something_there ports x can.0 octets can.1))
