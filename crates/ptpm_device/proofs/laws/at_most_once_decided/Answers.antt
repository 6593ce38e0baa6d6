-- A copy of the latest request is due the reply that was made when it was accepted, whatever has happened and been said since.
use Rattle.std.proofs.Common.{arith, ◌≡◌, ◌∙◌, ℕ, ◌<◌, ◌≤◌, List, [], ◌∷◌, Option, Some, None, true, false, refl, sym, subst, ⊎_elim, ◌++◌, length, ap}
use Rattle.std.specs.Option.{option_or}
use Rattle.std.proofs.lemmas.Bool.{cases_Bool, cond-true, cond-false}
use Rattle.ptpm_codec.specs.declared.identity.PortIdentity.{PortIdentity}
use Rattle.ptpm_codec.specs.Identity.{same_identity}
use Rattle.ptpm_codec.proofs.MessageLaws.{same_identity-true}
use Rattle.ptpm_data.specs.Members.{DataSetsValue}
use Rattle.ptpm_data.specs.Reply.{ReplyValue}
use Rattle.ptpm_table.proofs.Identities.{same_identity-refl}
use Rattle.ptpm_agent.specs.Turn.{Clock, State, outbox_of}
use Rattle.ptpm_agent.specs.Once.{Accepted, History, RequestCopy, accepted_from, after_copy, copy_of, due_reply, greatest, joined, joins, kept_reply, Delivery, initial_history}
use Rattle.ptpm_agent.specs.Observing.{AreOfOneRequest}
use Rattle.ptpm_device.specs.declared.relayed.RelayedId.{RelayedId}
use Rattle.ptpm_device.specs.Decided.{Changed, Delivered, Happening, Observed, after_arrival, after_decision, after_reply_to, decided_in_place, due_decided, history_after, reply_decided, ComeInTime, ComesInTime, after_happening, after_happenings}
use Rattle.ptpm_device.specs.Saying.{Say, turn_said}
use Rattle.ptpm_data.specs.Rights.{all_rights}
use Rattle.ptpm_data.proofs.Keeping.{changed_by-ports}
use Rattle.ptpm_data.proofs.Observed.{observed-ports}
use Rattle.ptpm_agent.specs.Laws.{StandsAt, due_messages, initial_clock_state}
use Rattle.ptpm_agent.specs.Window.{IsInTime}
use Rattle.ptpm_agent.proofs.AtMostOnce.{after_copy-ports, stands-initial_history}
use Rattle.ptpm_device.proofs.Steps.{DecidesAs, decides_as, turn_said-no_copy}
use Rattle.ptpm_device.proofs.laws.at_most_once_decided.Goals as goal

-- request k of a manager was accepted, and what is kept of it is a
record Keeps (m : PortIdentity) (k : ℕ) (a : Accepted) (h : History) : Type 0 where
  pub kept : kept_reply m k h.accepted ≡ Some a
  pub accepted : k ≤ greatest m h.accepted

-- one more is accepted
keeps-more : (m : PortIdentity) (k : ℕ) (a : Accepted) (h : History) (x : Accepted) (d : DataSetsValue)
    → greatest x.manager h.accepted < x.index
    → Keeps m k a h
    → Keeps m k a (record { sets = d; accepted = x ∷ h.accepted })
keeps-more m k a h x d above keeps = ⊎_elim
    (λ (same : same_identity m x.manager ≡ true).
    let past : greatest m h.accepted < x.index =
    subst (λ (p : PortIdentity). greatest p h.accepted < x.index) (sym (same_identity-true m x.manager same)) above in
    record {
      kept = grind arith;
      accepted = grind arith;
    })
    (λ (other : same_identity m x.manager ≡ false). grind arith)
    (cases_Bool (same_identity m x.manager))

above_all : (h : History) (x : RequestCopy) → joins h x ≡ true → greatest x.heard.source h.accepted < x.index
above_all h x y = grind arith

keeps-copy : (c : Clock) (m : PortIdentity) (k : ℕ) (a : Accepted) (h : History) (x : RequestCopy)
    → Keeps m k a h
    → Keeps m k a (after_copy c h x)
keeps-copy c m k a h x keeps = ⊎_elim
    (λ (y : joins h x ≡ true).
    subst (λ (next : History). Keeps m k a next) (sym (cond-true _ _ _ y))
    (keeps-more m k a h (accepted_from c h x) (joined c h x).sets (above_all h x y) keeps))
    (λ (n : joins h x ≡ false). subst (λ (next : History). Keeps m k a next) (sym (cond-false _ _ _ n)) keeps)
    (cases_Bool (joins h x))

keeps-reply : (c : Clock) (m : PortIdentity) (k : ℕ) (a : Accepted) (h : History) (x : RequestCopy) (o : Option ReplyValue)
    → joins h x ≡ true
    → Keeps m k a h
    → Keeps m k a (after_reply_to c h x o)
keeps-reply c m k a h x None y keeps = keeps-copy c m k a h x keeps
keeps-reply c m k a h x (Some reply) y keeps = keeps-more m k a h _ h.sets (above_all h x y) keeps

keeps-decision : (rows : List RelayedId) (c : Clock) (m : PortIdentity) (k : ℕ) (a : Accepted) (h : History) (x : RequestCopy) (say : Say)
    → Keeps m k a h
    → Keeps m k a (after_decision rows c h x say)
keeps-decision rows c m k a h x say keeps = ⊎_elim
    (λ (y : joins h x ≡ true). keeps-reply c m k a h x (reply_decided rows c h x say) y keeps)
    (λ (n : joins h x ≡ false).
    subst (λ (o : Option ReplyValue). Keeps m k a (after_reply_to c h x o)) (sym (cond-false _ _ _ n)) (keeps-copy c m k a h x keeps))
    (cases_Bool (joins h x))

keeps-arrival : (rows : List RelayedId) (c : Clock) (m : PortIdentity) (k : ℕ) (a : Accepted) (h : History) (o : Option RequestCopy) (say : Say)
    → Keeps m k a h
    → Keeps m k a (after_arrival rows c h o say)
keeps-arrival rows c m k a h None say keeps = keeps
keeps-arrival rows c m k a h (Some x) say keeps = keeps-decision rows c m k a h x say keeps

keeps-happening : (rows : List RelayedId) (c : Clock) (ports : ℕ) (m : PortIdentity) (k : ℕ) (a : Accepted) (h : History) (x : Happening)
    → Keeps m k a h
    → Keeps m k a (history_after rows c ports h x)
keeps-happening rows c ports m k a h (Delivered x say) keeps = keeps-arrival rows c m k a h (copy_of c ports x) say keeps
keeps-happening rows c ports m k a h (Observed o seen) keeps = record { kept = keeps.kept; accepted = keeps.accepted }
keeps-happening rows c ports m k a h (Changed q) keeps = record { kept = keeps.kept; accepted = keeps.accepted }

-- it is kept through all that happens
keeps-happenings : (rows : List RelayedId) (c : Clock) (ports : ℕ) (m : PortIdentity) (k : ℕ) (a : Accepted) (h : History) (xs : List Happening)
    → Keeps m k a h
    → Keeps m k a (decided_in_place rows c ports h xs)
keeps-happenings rows c ports m k a h [] keeps = keeps
keeps-happenings rows c ports m k a h (x ∷ xs) keeps =
    keeps-happenings rows c ports m k a (history_after rows c ports h x) xs (keeps-happening rows c ports m k a h x keeps)

keeps-first : (h : History) (a : Accepted) (d : DataSetsValue)
    → greatest a.manager h.accepted < a.index
    → Keeps a.manager a.index a (record { sets = d; accepted = a ∷ h.accepted })
keeps-first h a d above = grind (arith, same_identity-refl)

keeps-joined : (c : Clock) (h : History) (k : RequestCopy)
    → joins h k ≡ true
    → Keeps k.heard.source k.index (accepted_from c h k) (after_copy c h k)
keeps-joined c h k y = grind (arith, same_identity-refl)

-- another copy of the latest request does not join
latest_stays : (h : History) (k j : RequestCopy)
    → AreOfOneRequest k j
    → greatest k.heard.source h.accepted ≡ k.index
    → joins h j ≡ false
latest_stays h k j one latest = grind arith

due_reply-latest : (c : Clock) (h : History) (k j : RequestCopy) (a : Accepted)
    → AreOfOneRequest k j
    → a.request ≡ k.request
    → kept_reply k.heard.source k.index h.accepted ≡ Some a
    → greatest k.heard.source h.accepted ≡ k.index
    → due_reply c h j ≡ Some a.reply
due_reply-latest c h k j a one asked kept latest = grind arith

-- the reply that is due to it, whatever is said of it
due-latest : (rows : List RelayedId) (c : Clock) (h : History) (k j : RequestCopy) (a : Accepted) (say : Say)
    → AreOfOneRequest k j
    → a.request ≡ k.request
    → Keeps k.heard.source k.index a h
    → greatest k.heard.source h.accepted ≡ k.index
    → due_decided rows c h j say ≡ Some a.reply
due-latest rows c h k j a say one asked keeps latest =
    subst (λ (o : Option ReplyValue). option_or o (due_reply c h j) ≡ Some a.reply) (sym (cond-false _ _ _ (latest_stays h k j one latest)))
    (due_reply-latest c h k j a one asked keeps.kept latest)

since : (rows : List RelayedId) (c : Clock) (ports : ℕ) (first : History) (k j : RequestCopy) (a : Accepted) (later : Say) (xs : List Happening)
    → AreOfOneRequest k j
    → a.request ≡ k.request
    → Keeps k.heard.source k.index a first
    → greatest k.heard.source (decided_in_place rows c ports first xs).accepted ≡ k.index
    → due_decided rows c (decided_in_place rows c ports first xs) j later ≡ Some a.reply
since rows c ports first k j a later xs one asked keeps latest =
    due-latest rows c (decided_in_place rows c ports first xs) k j a later one asked
    (keeps-happenings rows c ports k.heard.source k.index a first xs keeps) latest

due_reply-joins : (c : Clock) (h : History) (k : RequestCopy)
    → joins h k ≡ true
    → due_reply c h k ≡ Some (accepted_from c h k).reply
due_reply-joins c h k y = cond-true _ _ _ y

due-since : (rows : List RelayedId) (c : Clock) (ports : ℕ) (h : History) (k j : RequestCopy) (o : Option ReplyValue) (later : Say) (xs : List Happening)
    → joins h k ≡ true
    → AreOfOneRequest k j
    → greatest k.heard.source (decided_in_place rows c ports (after_reply_to c h k o) xs).accepted ≡ k.index
    → due_decided rows c (decided_in_place rows c ports (after_reply_to c h k o) xs) j later ≡ option_or o (due_reply c h k)
due-since rows c ports h k j None later xs y one latest =
    since rows c ports (after_copy c h k) k j (accepted_from c h k) later xs one refl (keeps-joined c h k y) latest ∙ sym (due_reply-joins c h k y)
due-since rows c ports h k j (Some reply) later xs y one latest =
    since rows c ports (after_reply_to c h k (Some reply)) k j (record { manager = k.heard.source; index = k.index; request = k.request; reply = reply }) later xs
    one refl (keeps-first h _ h.sets (above_all h k y)) latest

kept_since : (rows : List RelayedId) (c : Clock) (ports : ℕ) (h : History) (k j : RequestCopy) (say later : Say) (xs : List Happening)
    → joins h k ≡ true
    → AreOfOneRequest k j
    → greatest k.heard.source (decided_in_place rows c ports (after_decision rows c h k say) xs).accepted ≡ k.index
    → due_decided rows c (decided_in_place rows c ports (after_decision rows c h k say) xs) j later ≡ due_decided rows c h k say
kept_since rows c ports h k j say later xs = due-since rows c ports h k j (reply_decided rows c h k say) later xs

-- At-most-once execution over all that happens at a clock whose device has a say.

-- ---- one happening

stands-arrival : (first : PortIdentity → ℕ) (rows : List RelayedId) (c : Clock) (ports : ℕ) (s : State) (h : History)
    (x : Delivery) (say : Say) (o : Option RequestCopy)
    → length h.sets.ports ≡ ports → copy_of c ports x ≡ o → StandsAt first s h
    → ((k : RequestCopy) → copy_of c ports x ≡ Some k → IsInTime first h k)
    → StandsAt first (turn_said rows c s say x.ingress x.datagram).next (after_arrival rows c h o say)
stands-arrival first rows c ports s h x say None many e at time = grind (arith, turn_said-no_copy)
stands-arrival first rows c ports s h x say (Some k) many e at time =
    (decides_as first rows c s h x say k at (ap (λ p. copy_of c p x) many ∙ e) (time k e)).stands

stands-happening : (first : PortIdentity → ℕ) (rows : List RelayedId) (c : Clock) (ports : ℕ) (s : State) (h : History)
    (x : Happening)
    → length h.sets.ports ≡ ports → StandsAt first s h → ComesInTime first rows c ports h x
    → StandsAt first (after_happening rows c s x) (history_after rows c ports h x)
stands-happening first rows c ports s h (Delivered x say) many at time = stands-arrival first rows c ports s h x say (copy_of c ports x) many refl at time
stands-happening first rows c ports s h (Observed o seen) many at time = grind arith
stands-happening first rows c ports s h (Changed q) many at time = grind arith

after_reply_to-ports : (c : Clock) (h : History) (k : RequestCopy) (o : Option ReplyValue)
    → length (after_reply_to c h k o).sets.ports ≡ length h.sets.ports
after_reply_to-ports c h k None = after_copy-ports c h k
after_reply_to-ports c h k (Some reply) = refl

after_arrival-ports : (rows : List RelayedId) (c : Clock) (h : History) (o : Option RequestCopy) (say : Say)
    → length (after_arrival rows c h o say).sets.ports ≡ length h.sets.ports
after_arrival-ports rows c h None say = refl
after_arrival-ports rows c h (Some k) say = after_reply_to-ports c h k (reply_decided rows c h k say)

history_after-ports : (rows : List RelayedId) (c : Clock) (ports : ℕ) (h : History) (x : Happening)
    → length (history_after rows c ports h x).sets.ports ≡ length h.sets.ports
history_after-ports rows c ports h (Delivered x say) = after_arrival-ports rows c h (copy_of c ports x) say
history_after-ports rows c ports h (Observed o seen) = observed-ports o seen h.sets
history_after-ports rows c ports h (Changed q) = changed_by-ports q all_rights h.sets

-- ---- all that happens

decided_in_place-ports : (rows : List RelayedId) (c : Clock) (ports : ℕ) (h : History) (xs : List Happening)
    → length (decided_in_place rows c ports h xs).sets.ports ≡ length h.sets.ports
decided_in_place-ports rows c ports h [] = refl
decided_in_place-ports rows c ports h (x ∷ xs) = decided_in_place-ports rows c ports (history_after rows c ports h x) xs ∙ history_after-ports rows c ports h x

stands_happenings : (first : PortIdentity → ℕ) (rows : List RelayedId) (c : Clock) (ports : ℕ) (s : State) (h : History)
    (xs : List Happening)
    → length h.sets.ports ≡ ports → StandsAt first s h → ComeInTime first rows c ports h xs
    → StandsAt first (after_happenings rows c s xs) (decided_in_place rows c ports h xs)
stands_happenings first rows c ports s h [] many at time = at
stands_happenings first rows c ports s h (x ∷ xs) many at time =
    stands_happenings first rows c ports (after_happening rows c s x) (history_after rows c ports h x) xs
    (history_after-ports rows c ports h x ∙ many) (stands-happening first rows c ports s h x many at time.0) time.1

-- a list with one more happening
time_parts : (first : PortIdentity → ℕ) (rows : List RelayedId) (c : Clock) (ports : ℕ) (h : History) (xs : List Happening)
    (x : Happening)
    → ComeInTime first rows c ports h (xs ++ x ∷ [])
    → ComeInTime first rows c ports h xs × ComesInTime first rows c ports (decided_in_place rows c ports h xs) x
time_parts first rows c ports h [] x time = (tt, time.0)
time_parts first rows c ports h (y ∷ ys) x time = let rest = time_parts first rows c ports (history_after rows c ports h y) ys x time.1 in ((time.0, rest.0), rest.1)

after_happenings-append : (rows : List RelayedId) (c : Clock) (s : State) (xs : List Happening) (x : Happening)
    → after_happenings rows c s (xs ++ x ∷ []) ≡ after_happening rows c (after_happenings rows c s xs) x
after_happenings-append rows c s [] x = refl
after_happenings-append rows c s (y ∷ ys) x = after_happenings-append rows c (after_happening rows c s y) ys x

decides_as_last : (first : PortIdentity → ℕ) (rows : List RelayedId) (c : Clock) (d : DataSetsValue) (xs : List Happening)
    (x : Delivery) (say : Say) (k : RequestCopy)
    → copy_of c (length d.ports) x ≡ Some k
    → ComeInTime first rows c (length d.ports) (initial_history d) (xs ++ Delivered x say ∷ [])
    → DecidesAs first rows c (after_happenings rows c (initial_clock_state d) xs)
    (decided_in_place rows c (length d.ports) (initial_history d) xs) x say k
decides_as_last first rows c d xs x say k e time =
    let t = time_parts first rows c (length d.ports) (initial_history d) xs (Delivered x say) time in
    decides_as first rows c (after_happenings rows c (initial_clock_state d) xs)
    (decided_in_place rows c (length d.ports) (initial_history d) xs) x say k
    (stands_happenings first rows c (length d.ports) (initial_clock_state d) (initial_history d) xs refl (stands-initial_history first d) t.0)
    (ap (λ p. copy_of c p x) (decided_in_place-ports rows c (length d.ports) (initial_history d) xs) ∙ e) (t.1 k e)

sets_in_place : (rows : List RelayedId) (c : Clock) (first : PortIdentity → ℕ) (d : DataSetsValue)
    (xs : List Happening)
    → ComeInTime first rows c (length d.ports) (initial_history d) xs
    → (after_happenings rows c (initial_clock_state d) xs).sets
    ≡ (decided_in_place rows c (length d.ports) (initial_history d) xs).sets
sets_in_place rows c first d xs time =
    (stands_happenings first rows c (length d.ports) (initial_clock_state d) (initial_history d) xs refl (stands-initial_history first d) time).sets

outbox_in_place : (rows : List RelayedId) (c : Clock) (first : PortIdentity → ℕ) (d : DataSetsValue)
    (xs : List Happening) (x : Delivery) (say : Say) (k : RequestCopy)
    → copy_of c (length d.ports) x ≡ Some k
    → ComeInTime first rows c (length d.ports) (initial_history d) (xs ++ Delivered x say ∷ [])
    → outbox_of (turn_said rows c (after_happenings rows c (initial_clock_state d) xs) say x.ingress x.datagram)
    ≡ due_messages c k
    (due_decided rows c (decided_in_place rows c (length d.ports) (initial_history d) xs) k say)
outbox_in_place rows c first d xs x say k e time =
    let as' = decides_as_last first rows c d xs x say k e time in
    ap (λ (f : List (ℕ × List ℕ)). f ++ (turn_said rows c (after_happenings rows c (initial_clock_state d) xs) say x.ingress x.datagram).replies) as'.forwards ∙ as'.replies

repeat_in_place : (rows : List RelayedId) (c : Clock) (first : PortIdentity → ℕ) (d : DataSetsValue)
    (xs : List Happening) (x : Delivery) (say : Say) (k : RequestCopy)
    → copy_of c (length d.ports) x ≡ Some k
    → ComeInTime first rows c (length d.ports) (initial_history d) (xs ++ Delivered x say ∷ [])
    → joins (decided_in_place rows c (length d.ports) (initial_history d) xs) k ≡ false
    → after_happenings rows c (initial_clock_state d) (xs ++ Delivered x say ∷ [])
    ≡ after_happenings rows c (initial_clock_state d) xs
repeat_in_place rows c first d xs x say k e time j =
    after_happenings-append rows c (initial_clock_state d) xs (Delivered x say) ∙ (decides_as_last first rows c d xs x say k e time).stays j

pub returns-clause-sets : goal.returns-clause-sets
returns-clause-sets c = sets_in_place

pub returns-clause-outbox : goal.returns-clause-outbox
returns-clause-outbox c = outbox_in_place

pub returns-clause-repeats : goal.returns-clause-repeats
returns-clause-repeats c = repeat_in_place

pub returns-clause-stands : goal.returns-clause-stands
returns-clause-stands c = λ rows clock first s h xs at time. stands_happenings first rows clock _ s h xs refl at time

pub returns-clause-kept : goal.returns-clause-kept
returns-clause-kept c = kept_since
