-- The data sets of a clock, which its name finds.
use Rattle.ptpm_world.proofs.Common.{◌≡◌, ℕ, zero, suc, true, false, List, [], ◌∷◌, Some, refl, sym, ap, ◌∙◌, arith, ⊎_elim, find, map, option_map, bytes_eq, cases_Bool, cond-true, cond-false, same_Some, slice_get, slice_get-map, clock_value, network_value, NetworkValue, IsAccepted, ClockValue, running, sets_of, state_of, length, slice_get_read}
use Rattle.std.proofs.lemmas.Option.{none-some}
use Rattle.ptpm_script.proofs.NetworkLaw.{of_text-accepted}
use Rattle.ptpm_script.specs.declared.network.Network.{Network}
use Rattle.ptpm_script.specs.declared.network.NetworkClock.{NetworkClock}
use Rattle.std.proofs.lemmas.Slice.Eq.{bytes_eq-Decides}
use Rattle.ptpm_draw.specs.Picture.{IsWorldOf}
use Rattle.ptpm_world.specs.Placed.{Names}
use Rattle.ptpm_world.specs.Running.{sets_named}
use Rattle.ptpm_world.specs.declared.world.World.{World}
use Rattle.ptpm_draw.proofs.changes.clock_sets.Goals as goal

-- this text is at one place at most
abbrev IsAlone : List (List ℕ) → List ℕ → ℕ → Type 0
IsAlone names name place = (i : ℕ) → slice_get names i ≡ Some name → i ≡ place

-- so the first element that has it is the one there
found-there : {X : Type 0} (name_of : X → List ℕ) (xs : List X) (name : List ℕ) (place : ℕ)
    → slice_get (map name_of xs) place ≡ Some name
    → IsAlone (map name_of xs) name place
    → find (λ x. bytes_eq (name_of x) name) xs ≡ slice_get xs place
found-there name_of [] name place e alone = absurd (none-some name e)
found-there name_of (x ∷ xs) name zero e alone =
    cond-true _ _ _ ((bytes_eq-Decides (name_of x) name).1 (same_Some (name_of x) name e))
found-there name_of (x ∷ xs) name (suc place) e alone = ⊎_elim
    (λ (here : bytes_eq (name_of x) name ≡ true).
    absurd (omega (arith, alone 0 (ap Some ((bytes_eq-Decides (name_of x) name).0 here)))))
    (λ (away : bytes_eq (name_of x) name ≡ false).
    cond-false _ _ _ away ∙ found-there name_of xs name place e (λ i at. omega (arith, alone (suc i) at)))
    (cases_Bool (bytes_eq (name_of x) name))

-- what is at a place of a mapped list is made of what was at that place
made-of : {X : Type 0} (name_of : X → List ℕ) (xs : List X) (place : ℕ) (name : List ℕ)
    → slice_get (map name_of xs) place ≡ Some name
    → (x : X) × ((slice_get xs place ≡ Some x) × (name_of x ≡ name))
made-of name_of [] place name e = absurd (none-some name e)
made-of name_of (x ∷ xs) zero name e = (x, (refl, same_Some (name_of x) name e))
made-of name_of (x ∷ xs) (suc place) name e = made-of name_of xs place name e

-- by a list of names
named-there : {X : Type 0} (name_of : X → List ℕ) (xs : List X) (names : List (List ℕ)) (name : List ℕ) (place : ℕ)
    → map name_of xs ≡ names
    → slice_get names place ≡ Some name
    → IsAlone names name place
    → (x : X) × ((find (λ x. bytes_eq (name_of x) name) xs ≡ Some x) × (slice_get xs place ≡ Some x))
named-there {X = X} name_of xs names name place same at alone =
    let named : slice_get (map name_of xs) place ≡ Some name = ap (λ ns. slice_get ns place) same ∙ at in
    let x : (x : X) × ((slice_get xs place ≡ Some x) × (name_of x ≡ name)) = made-of name_of xs place name named in (
      x.0,
      (found-there name_of xs name place named (λ i h. alone i (ap (λ ns. slice_get ns i) (sym same) ∙ h)) ∙ x.1.0, x.1.0),
    )

clock-named : (n : NetworkValue) (place : ℕ) (k : ClockValue)
    → slice_get n.clocks place ≡ Some k
    → slice_get (map (λ (c : ClockValue). c.name) n.clocks) place ≡ Some k.name
clock-named n place k at =
    slice_get-map (λ (c : ClockValue). c.name) n.clocks place ∙ ap (option_map (λ (c : ClockValue). c.name)) at

clock-alone : (n : NetworkValue) (place : ℕ) (k : ClockValue)
    → IsAccepted n
    → slice_get n.clocks place ≡ Some k
    → IsAlone (map (λ (c : ClockValue). c.name) n.clocks) k.name place
clock-alone n place k facts at i h =
    let other : (x : ClockValue) × ((slice_get n.clocks i ≡ Some x) × (x.name ≡ k.name)) =
    made-of (λ (c : ClockValue). c.name) n.clocks i k.name h in
    facts.clock_names i place other.0 k other.1.0 at other.1.1

clock-sets : (n : NetworkValue) (w : World) (place : ℕ) (k : ClockValue)
    → IsAccepted n
    → IsWorldOf n w
    → slice_get n.clocks place ≡ Some k
    → sets_named w k.name ≡ Some ((running w).clock place).sets
clock-sets n w place k facts world at =
    let x = named-there _ _ (map (λ (c : ClockValue). c.name) n.clocks) k.name place (ap (λ (names : Names). names.clocks) world.names)
    (clock-named n place k at) (clock-alone n place k facts at) in
    ap sets_of x.1.0 ∙ ap (λ o. Some (state_of o).sets) (sym x.1.1)

clock-sets_named : (network : Network) (w : World) (place : ℕ) (clocks : List NetworkClock) (k : NetworkClock)
    (name : List ℕ)
    → IsWorldOf (network_value network) w
    → clocks ≡ network.clocks.items
    → slice_get clocks place ≡ Some k
    → name ≡ k.name
    → sets_named w name ≡ Some ((running w).clock place).sets
clock-sets_named network w place clocks k name world same at named =
    let n = network_value network in
    ap (sets_named w) named
    ∙ clock-sets n w place (clock_value k) (of_text-accepted n network.of_text) world
    (slice_get-map clock_value network.clocks.items place ∙ ap (option_map clock_value) (ap (λ cs. slice_get cs place) (sym same) ∙ at))

pub returns-clause-sets : goal.returns-clause-sets
returns-clause-sets c =
    let clocks = c.clocks-clocks.result.now in
    let clock = c.index-clocks-place.result in
    let same = c.clocks-clocks.ensures in
    c.sets.ensures.sets
    ∙ clock-sets_named c.args.network.now c.args.world.now c.args.place clocks clock c.as_str.result.now c.requires.world same
    (slice_get_read clocks (length c.args.network.now.clocks.items) c.args.place clock (ap length (sym same)) c.requires.there c.index-clocks-place.is)
    (c.as_str.ensures ∙ ap (λ (k : NetworkClock). k.name) (sym c.index-clocks-place.is))
