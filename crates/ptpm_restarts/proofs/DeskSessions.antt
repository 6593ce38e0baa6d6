-- A desk's session and the network's: what each move makes of them, and that both take the same answers and send the same octets.
use Rattle.ptpm_network.proofs.Common.{arith, by_test, ◌≡◌, ℕ, ◌+◌, ◌-◌, ◌<◌, ◌≤◌, ◌^◌, ◌==◌, ◌&&◌, ◌++◌, not, true, false, List, [], ◌∷◌, Option, Some, None, is_some, option_map, Result, Ok, Err, refl, sym, ◌∙◌, ap, subst, true≢false, cond-true, cond-false, PortIdentity, ClockIdentity, DecodeError, Message, RequestValue, Report, SessionValue, action_of, id_of, same_clock, first_of, reading, reason_of, answer_by, answer_to, answered, begun, count_limit, due_message, is_content, is_from_asked_port, is_waiting, received_of, resumed, retuned, sent}
use Rattle.std.specs.Prelude.{◌%◌}
use Rattle.ptpm_manager.specs.declared.receiving.Reason.{Reason}
use Rattle.ptpm_manager.specs.declared.receiving.Reason.TheVariants as reasons
use Rattle.ptpm_manager.specs.declared.receiving.Received.TheVariants as received
use Rattle.ptpm_manager.specs.declared.setup.Setup.{Setup}
use Rattle.ptpm_codec.specs.declared.message.Body.TheVariants as bodies
use Rattle.ptpm_manager.specs.Ask.{IsRequestTo}
use Rattle.ptpm_manager.specs.Receiving.{no_reply_to}
use Rattle.ptpm_manager.specs.Session.{fresh, given_up}
use Rattle.ptpm_manager.proofs.ReplyLaws.{only_reply}
use Rattle.ptpm_restarts.specs.DeskIncidents.{IsMirrored, IsMirroredBut, IsSetUpFor, unbegun, with_unbegun}
use Rattle.ptpm_asker.specs.Desk.{latest_number, next_number}

-- ---- numbers

latest-as : (f i g j : ℕ) → 1 ≤ i → 1 ≤ j → (f + (i + 1 - 1)) % 65536 ≡ (g + (j + 1 - 1)) % 65536 → (f + (i - 1)) % 65536 ≡ (g + (j - 1)) % 65536
latest-as f i g j a b e = omega arith

next-as : (f i g j : ℕ) → 1 ≤ i → 1 ≤ j → (f + (i - 1)) % 65536 ≡ (g + (j - 1)) % 65536 → (f + (i + 1 - 1)) % 65536 ≡ (g + (j + 1 - 1)) % 65536
next-as f i g j a b e = omega arith

next-begun : (f i g j : ℕ) → (f + (i + 1 - 1)) % 65536 ≡ (g + (j + 1 - 1)) % 65536 → (f + (i + 1 + 1 - 1)) % 65536 ≡ (g + (j + 1 + 1 - 1)) % 65536
next-begun f i g j e = omega arith

next-fresh : (first g j : ℕ) → first ≡ (g + (j + 1 - 1)) % 65536 → (first + (0 + 1 - 1)) % 65536 ≡ (g + (j + 1 - 1)) % 65536
next-fresh first g j e = omega arith

next-back : (f i g j first : ℕ) → 1 ≤ i → (f + (i + 1 - 1)) % 65536 ≡ (g + (j + 1 + 1 - 1)) % 65536 → first ≡ (f + (i - 1)) % 65536 → first ≡ (g + (j + 1 - 1)) % 65536
next-back f i g j first a e is = omega arith

-- ---- what is unbegun

pub nothing : (o : Option RequestValue) → is_some o ≡ false → o ≡ None
nothing None e = refl
nothing (Some q) e = absurd (cc)

unbegun-is : (own : Setup) (r v : SessionValue) (o : Option RequestValue) → IsMirroredBut own r v o → unbegun r v ≡ o
unbegun-is own r v None m = by_test (is_waiting v) (λ y. cond-true _ _ _ y) (λ n. cond-false _ _ _ n ∙ m.like.request ∙ nothing v.unanswered n)
unbegun-is own r v (Some q) m = cond-false _ _ _ m.can_begin.idle ∙ m.like.request

pub mirrored : (own : Setup) (r v : SessionValue) (o : Option RequestValue) → IsMirroredBut own r v o → IsMirrored own r v
mirrored own r v o m = subst (IsMirroredBut own r v) (sym (unbegun-is own r v o m)) m

pub setup-of : (v : SessionValue) (o : Option RequestValue) → (with_unbegun v o).setup ≡ v.setup
setup-of v None = refl
setup-of v (Some q) = refl

pub waits-too : (own : Setup) (r v : SessionValue) (o : Option RequestValue) → IsMirroredBut own r v o → is_waiting r ≡ true → is_waiting (with_unbegun v o) ≡ true
waits-too own r v o m y = ap (λ (q : Option RequestValue). is_some q) (sym m.like.request) ∙ y

-- a session that waits for nothing mirrors one that does not either, with nothing unbegun
pub rests-too : (own : Setup) (r v : SessionValue) (o : Option RequestValue) → IsMirroredBut own r v o → is_waiting r ≡ false
    → is_waiting v ≡ false
rests-too own r v None m n = ap (λ (q : Option RequestValue). is_some q) (sym m.like.request) ∙ n
rests-too own r v (Some q) m n = m.can_begin.idle

all-begun : (own : Setup) (r v : SessionValue) (o : Option RequestValue) → IsMirroredBut own r v o → is_waiting r ≡ false
    → IsMirroredBut own r v None
all-begun own r v None m n = m
all-begun own r v (Some q) m n = absurd (true≢false (sym (ap (λ (o : Option RequestValue). is_some o) m.like.request) ∙ n))

pub none-unbegun : (own : Setup) (r v : SessionValue) → IsMirrored own r v → is_waiting r ≡ false → unbegun r v ≡ None
none-unbegun own r v m n = unbegun-is own r v None (all-begun own r v (unbegun r v) m n)

-- ---- moves

-- it gives up what it has not
pub rests-like : (own : Setup) (r v : SessionValue) → IsMirrored own r v → is_waiting r ≡ false → IsMirrored own (given_up r) v
rests-like own r v m n =
    let rests : is_waiting v ≡ false = rests-too own r v (unbegun r v) m n in
    let b = all-begun own r v (unbegun r v) m n in
    mirrored own (given_up r) v None (record {
      set_up = m.set_up;
      can_begin = tt;
      like = record {
        set_up = m.like.set_up;
        request = sym (nothing v.unanswered rests);
        counted = λ y. absurd (true≢false (sym y ∙ rests));
        next = b.like.next;
      };
    })

-- another domain, and other attempts
pub tuned : (own : Setup) (r v : SessionValue) (domain attempts : ℕ) → IsMirrored own r v → IsMirrored own (record r { domain = domain; attempts_left = attempts }) v
tuned own r v domain attempts m = record {
  set_up = m.set_up;
  can_begin = m.can_begin;
  like = record { set_up = m.like.set_up; request = m.like.request; counted = m.like.counted; next = m.like.next };
}

-- the network's session too
pub tuned-there : (own : Setup) (r v : SessionValue) (domain : ℕ) → IsMirrored own r v → IsMirrored own r (retuned v domain)
tuned-there own r v domain m = mirrored own r (retuned v domain) (unbegun r v) (there (unbegun r v) m)
  where
    there : (o : Option RequestValue) → IsMirroredBut own r v o → IsMirroredBut own r (retuned v domain) o
    there None m = record {
      set_up = m.set_up;
      can_begin = tt;
      like = record { set_up = m.like.set_up; request = m.like.request; counted = m.like.counted; next = m.like.next };
    }
    there (Some q) m = record {
      set_up = m.set_up;
      can_begin = record { idle = m.can_begin.idle; request = m.can_begin.request; id = m.can_begin.id; count = m.can_begin.count };
      like = record { set_up = m.like.set_up; request = m.like.request; counted = m.like.counted; next = m.like.next };
    }

pub begins-like : (own : Setup) (r v : SessionValue) (q : RequestValue)
    → IsMirrored own r v → is_waiting r ≡ false → IsRequestTo own.ports q → q.id < 2 ^ 16 → v.issued < count_limit
    → IsMirrored own (begun r q) v
begins-like own r v q m n request id count =
    let b = all-begun own r v (unbegun r v) m n in
    mirrored own (begun r q) v (Some q) (record {
      set_up = m.set_up;
      can_begin = record { idle = rests-too own r v (unbegun r v) m n; request = subst (λ (setup : Setup). IsRequestTo setup.ports q) (sym m.set_up) request; id = id; count = count };
      like = record {
        set_up = m.like.set_up;
        request = refl;
        counted = λ _. (omega arith, omega arith);
        next = next-begun r.setup.first r.issued v.setup.first v.issued b.like.next;
      };
    })

pub fresh-like : (own : Setup) (setup : Setup) (domain : ℕ) (v : SessionValue)
    → v.setup ≡ own → IsSetUpFor own setup → is_waiting v ≡ false → setup.first ≡ next_number v
    → IsMirrored own (fresh setup domain) v
fresh-like own setup domain v is set_up n first = mirrored own (fresh setup domain) v None (record {
  set_up = is;
  can_begin = tt;
  like = record {
    set_up = set_up;
    request = sym (nothing v.unanswered n);
    counted = λ y. absurd (true≢false (sym y ∙ n));
    next = next-fresh setup.first v.setup.first v.issued first;
  };
})

pub next-mirrored : (own : Setup) (r v : SessionValue) → IsMirrored own r v → is_waiting r ≡ false → next_number r ≡ next_number v
next-mirrored own r v m n = (all-begun own r v (unbegun r v) m n).like.next

-- the number of a request that is unbegun is the network's next one
pub next-taken : (own : Setup) (r v : SessionValue) (first : ℕ)
    → IsMirrored own r v → is_waiting r ≡ true → is_waiting v ≡ false → first ≡ latest_number r
    → first ≡ next_number v
next-taken own r v first m y n is = by (unbegun r v) m
  where
    by : (o : Option RequestValue) → IsMirroredBut own r v o → first ≡ next_number v
    by None m = absurd (true≢false (sym (waits-too own r v None m y) ∙ n))
    by (Some q) m = next-back r.setup.first r.issued v.setup.first v.issued first (m.like.counted refl).0 m.like.next is

module _ (own : Setup) (r v : SessionValue) (o : Option RequestValue) (domain : ℕ) (m : IsMirroredBut own r v o) where
  pub sent-like : IsMirrored own (sent r) (sent (resumed (retuned (with_unbegun v o) domain) 1))
  sent-like = mirrored own _ _ None (record {
    set_up = setup-of v o ∙ m.set_up;
    can_begin = tt;
    like = record { set_up = m.like.set_up; request = m.like.request; counted = m.like.counted; next = m.like.next };
  })

  -- a file that has the same request
  pub stored-like : (f w : SessionValue) (p : Option RequestValue) → IsMirroredBut own f w p → is_waiting r ≡ true
      → f.unanswered ≡ r.unanswered → latest_number f ≡ latest_number r
      → IsMirrored own f (sent (resumed (retuned (with_unbegun v o) domain) 1))
  stored-like f w p mf y request latest =
      let counted-r = m.like.counted (waits-too own r v o m y) in
      let counted-f = mf.like.counted (waits-too own f w p mf (ap (λ (q : Option RequestValue). is_some q) request ∙ y)) in
      mirrored own _ _ None (record {
        set_up = setup-of v o ∙ m.set_up;
        can_begin = tt;
        like = record {
          set_up = mf.like.set_up;
          request = request ∙ m.like.request;
          counted = λ z. (counted-f.0, counted-r.1);
          next = next-as f.setup.first f.issued r.setup.first r.issued counted-f.0 counted-r.0 latest ∙ m.like.next;
        };
      })

  pub answered-like : IsMirrored own (answered r) (answered (retuned (with_unbegun v o) domain))
  answered-like = mirrored own _ _ None (record {
    set_up = setup-of v o ∙ m.set_up;
    can_begin = tt;
    like = record { set_up = m.like.set_up; request = refl; counted = λ y. absurd (true≢false (sym y)); next = m.like.next };
  })

  pub given_up-like : IsMirrored own (given_up r) (given_up (with_unbegun v o))
  given_up-like = mirrored own _ _ None (record {
    set_up = setup-of v o ∙ m.set_up;
    can_begin = tt;
    like = record { set_up = m.like.set_up; request = refl; counted = λ y. absurd (true≢false (sym y)); next = m.like.next };
  })

  pub latest-like : is_waiting r ≡ true → latest_number r ≡ latest_number (with_unbegun v o)
  latest-like y =
      let counted = m.like.counted (waits-too own r v o m y) in
      latest-as r.setup.first r.issued (with_unbegun v o).setup.first (with_unbegun v o).issued counted.0 counted.1 m.like.next

  -- ---- messages

  me-like : r.setup.me ≡ (with_unbegun v o).setup.me
  me-like = ap (λ (z : Setup). z.me) m.like.set_up ∙ ap (λ (z : Setup). z.me) (sym (setup-of v o ∙ m.set_up))

  target-like : r.setup.target ≡ (with_unbegun v o).setup.target
  target-like = ap (λ (z : Setup). z.target) m.like.set_up ∙ ap (λ (z : Setup). z.target) (sym (setup-of v o ∙ m.set_up))

  hops-like : r.setup.hops ≡ (with_unbegun v o).setup.hops
  hops-like = ap (λ (z : Setup). z.hops) m.like.set_up ∙ ap (λ (z : Setup). z.hops) (sym (setup-of v o ∙ m.set_up))

  abbrev message_by : PortIdentity → ClockIdentity → ℕ → ℕ → RequestValue → Message
  message_by me target hops number q = record {
    sdo = 0;
    domain = r.domain;
    source = me;
    number = number;
    target = record { clock = target; port = q.port };
    starting_hops = hops;
    hops = hops;
    body = bodies.Request q.action q.id q.octets;
  }

  pub due-like : is_waiting r ≡ true → due_message r ≡ due_message (retuned (with_unbegun v o) r.domain)
  due-like y = (λ i. option_map (message_by (me-like i) (target-like i) (hops-like i) (latest-like y i)) (m.like.request i))

  -- ---- answers

  abbrev reason_by : PortIdentity → ClockIdentity → Option RequestValue → ℕ → Message → Option Reason
  reason_by me target q number c = first_of (no_reply_to me r.domain c
      ++ (not (same_clock c.source.clock target && is_from_asked_port q c.source.port), reasons.OtherSource)
      ∷ (not (is_some q), reasons.NothingAsked)
      ∷ (not (c.number == number), reasons.OtherNumber)
      ∷ (not (is_content q (action_of c.body) (id_of c.body)), reasons.OtherContent)
      ∷ [])

  reason-like : is_waiting r ≡ true → (c : Message) → reason_of r c ≡ reason_of (retuned (with_unbegun v o) r.domain) c
  unfolding reason_of
  reason-like y c = (λ i. reason_by (me-like i) (target-like i) (m.like.request i) (latest-like y i) c)

  abbrev there : SessionValue
  there = retuned (with_unbegun v o) r.domain

  answer-by : is_waiting r ≡ true → (c : Message) (report : Report) (reason : Option Reason) → reason_of r c ≡ reason → answer_by reason r c ≡ received.Answered report
      → answer_by (reason_of there c) there c ≡ received.Answered (record { index = there.issued; outcome = report.outcome })
  answer-by y c report (Some reason) is e = absurd (cc)
  answer-by y c report None is e =
      ap (λ (q : Option Reason). answer_by q there c) (sym (reason-like y c) ∙ is) ∙ cc

  answer-to : is_waiting r ≡ true → (c : Result Message DecodeError) (report : Report) → answer_to r c ≡ received.Answered report
      → answer_to there c ≡ received.Answered (record { index = there.issued; outcome = report.outcome })
  answer-to y (Err cause) report e = absurd (cc)
  answer-to y (Ok c) report e = answer-by y c report (reason_of r c) refl e

  pub waits-for : (datagram : List ℕ) (report : Report) → received_of r datagram ≡ received.Answered report → is_waiting r ≡ true
  waits-for datagram report e = ap (λ (q : Option RequestValue). is_some q) (only_reply r datagram report e).unanswered

  -- the network's session takes what the desk's takes
  pub received-like : (datagram : List ℕ) (report : Report) → received_of r datagram ≡ received.Answered report
      → received_of there datagram ≡ received.Answered (record { index = (with_unbegun v o).issued; outcome = report.outcome })
  received-like datagram report e = answer-to (waits-for datagram report e) (reading datagram) report e
