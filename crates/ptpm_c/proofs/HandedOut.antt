-- What a call hands out: a text, and messages in places of a host.
use Rattle.std.proofs.Common.{◌≡◌, ◌≢◌, ◌<◌, ℕ, List, Option, None, Some, arith, length, refl, unwrap_or, rules, ◌≤◌, ◌+◌, All, ap, drop, subst, sym, take}
use Rattle.ptpm_host.specs.Texts.{HandsOut}
use Rattle.std.specs.List.{AllZip}
use Rattle.ptpm_host.specs.declared.sent.Sent.{Sent}
use Rattle.ptpm_host.specs.Blanks.{AreBlanked}
use Rattle.ptpm_host.specs.Clock.{IsWhole, KeepsBehind}
use Rattle.ptpm_host.specs.OutboxLaws.{kept_by_none}
use Rattle.ptpm_c.specs.declared.device.Taken.{Taken}
use Rattle.ptpm_c.specs.Said.{ArePlaced, nothing_taken}

-- ---- what a call answers for a text that was handed out: its size, or 0 if there was no room

pub whole : (text : List ℕ) (size : Option ℕ) (before after : List ℕ) → HandsOut text size before after
    → unwrap_or size 0 ≢ 0 → HandsOut text (Some (unwrap_or size 0)) before after
whole text (Some n) before after out some = out
whole text None before after out some = absurd (some refl)

-- a text that is not empty
pub no_room : (text : List ℕ) (size : Option ℕ) (before after : List ℕ) → HandsOut text size before after
    → 0 < length text → unwrap_or size 0 ≡ 0 → length before < length text
no_room text (Some n) before after out long zero = absurd (omega (arith, out.0.size, long, zero))
no_room text None before after out long zero = out

-- ---- places of a host into which a call has written messages, or nothing

-- messages, of which none waits
pub placed : (taken : Taken) (before after : List Sent)
    → taken.waiting ≡ 0
    → taken.count ≤ length after
    → All IsWhole (take taken.count after)
    → drop taken.count after ≡ drop taken.count before
    → AllZip KeepsBehind before after
    → ArePlaced taken before after
placed taken before after none within whole places behind =
    let same : taken.count ≡ taken.count + taken.waiting = omega (arith, none) in
    record {
      within = within;
      whole = whole;
      places = subst (λ (n : ℕ). drop n after ≡ drop n before) same places;
      behind = λ zero. behind;
      blanked = λ some. absurd (some none);
    }

-- no message at once, and as many blank places as messages wait
pub blanked_places : (taken : Taken) (before after : List Sent)
    → taken.count ≡ 0
    → AreBlanked taken.waiting before after
    → ArePlaced taken before after
blanked_places taken before after none blanked =
    let same : taken.waiting ≡ taken.count + taken.waiting = omega (arith, none) in
    record {
      within = omega (arith, none);
      whole = subst (λ (n : ℕ). All IsWhole (take n after)) (sym none) (search rules);
      places = subst (λ (n : ℕ). drop n after ≡ drop n before) same blanked.others;
      behind = λ zero.
          let all : after ≡ before = subst (λ (n : ℕ). drop n after ≡ drop n before) zero blanked.others in
          subst (λ (a : List Sent). AllZip KeepsBehind before a) (sym all) (kept_by_none before);
      blanked = λ some. (none, blanked);
    }

placed_none : (places : List Sent) → ArePlaced nothing_taken places places
placed_none places = record {
  within = omega arith;
  whole = search rules;
  places = refl;
  behind = λ zero. kept_by_none places;
  blanked = λ some. absurd (some refl);
}

pub unchanged_places : (taken : Taken) (before after : List Sent) → taken ≡ nothing_taken → after ≡ before → ArePlaced taken before after
unchanged_places taken before after is same =
    subst (λ (t : Taken). ArePlaced t before after) (sym is)
    (subst (λ (a : List Sent). ArePlaced nothing_taken before a) (sym same) (placed_none before))
