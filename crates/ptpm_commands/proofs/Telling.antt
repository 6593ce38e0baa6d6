-- What is printed, one piece after another.
use Rattle.std.proofs.Common.{◌≡◌, ◌==◌, ◌≤◌, ℕ, false, length, map, take, List, [], ◌∷◌, ◌++◌, ◌+◌, None, Some, Ok, Option, refl, sym, ap, ◌∙◌, subst, append_assoc, append-nil, codes, flat_map}
use Rattle.std.proofs.KnownBytes.{Appends-kept, Appends-trans}
use Rattle.std.proofs.lemmas.List.{take_all}
use Rattle.std.proofs.lemmas.List.Folds.{flat_map-map}
use Rattle.std.specs.Int.{to_be_bytes, w16}
use Rattle.std.specs.Io.KnownBytes.{Appends, Keeps}
use Rattle.ptpm_agent.specs.Turn.{Clock, State, turn}
use Rattle.arrayvec.specs.ArrayVec.{ArrayVec}
use Rattle.ptpm_codec.specs.declared.message.Action.TheVariants as actions
use Rattle.ptpm_data.specs.ManagementId.{RowValue, has_action, id_table, row_of}
use Rattle.ptpm_table.specs.Outbox.{sent}
use Rattle.ptpm_commands.specs.Answer.{answered, answered_each, sent_line, sent_lines, state_behind}
use Rattle.ptpm_commands.specs.Ids.{id_line, letter, row_line, scope_text, table_lines}
use Rattle.ptpm_commands.specs.Show.{named_line}
use Rattle.ptpm_text.specs.OctetText.{text_of_octets}
use Rattle.ptpm_commands.specs.Taken.{IsNext, line_datagram}
use Rattle.ptpm_commands.proofs.TakenLemmas.{Reaches, reaches-next}

-- ---- at a clock

state-more : (c : Clock) (s : State) (ds : List (List ℕ)) (d : List ℕ)
    → state_behind c s (ds ++ d ∷ []) ≡ (turn c (state_behind c s ds) 1 d).next
state-more c s [] d = refl
state-more c s (x ∷ xs) d = state-more c (turn c s 1 x).next xs d

each-more : (c : Clock) (s : State) (ds : List (List ℕ)) (d : List ℕ)
    → answered_each c s (ds ++ d ∷ []) ≡ answered_each c s ds ++ answered c (state_behind c s ds) d
each-more c s [] d = append-nil (answered c s d)
each-more c s (x ∷ xs) d =
    ap (λ l. answered c s x ++ l) (each-more c (turn c s 1 x).next xs d)
    ∙ sym (append_assoc (answered c s x) (answered_each c (turn c s 1 x).next xs) (answered c (state_behind c (turn c s 1 x).next xs) d))

-- what it sends for the datagrams of the lines so far is printed, and this is its state after them
pub record Answers (c : Clock) (first : State) (number : ℕ) (known left before after : Option (List ℕ)) (now : State) : Type 0 where
  pub datagrams : List (List ℕ)
  pub reaches : Reaches line_datagram datagrams number known left
  pub printed : Appends before after (answered_each c first datagrams)
  pub stands : state_behind c first datagrams ≡ now

answers-more : (c : Clock) (first now next : State) (n : ℕ) (known left others before mid after : Option (List ℕ)) (d : List ℕ)
    → Answers c first n known left before mid now
    → IsNext line_datagram n left others (Ok (Some d))
    → Appends mid after (answered c now d)
    → next ≡ (turn c now 1 d).next
    → Answers c first (n + 1) known others before after next
answers-more c first now next n known left others before mid after d h at wrote is = record {
  datagrams = h.datagrams ++ d ∷ [];
  reaches = reaches-next line_datagram h.datagrams n known left others (Some d) h.reaches at;
  printed = subst (Appends before after)
      (ap (λ s. answered_each c first h.datagrams ++ answered c s d) (sym h.stands) ∙ sym (each-more c first h.datagrams d))
      (Appends-trans before mid after _ _ h.printed wrote);
  stands = state-more c first h.datagrams d ∙ ap (λ s. (turn c s 1 d).next) h.stands ∙ sym is;
}

-- a line without a datagram
pub answers-pass : (c : Clock) (first now : State) (n : ℕ) (known left others before after : Option (List ℕ))
    → Answers c first n known left before after now
    → IsNext line_datagram n left others (Ok None)
    → Answers c first (n + 1) known others before after now
answers-pass c first now n known left others before after h at = record {
  datagrams = h.datagrams;
  reaches = subst (λ ds. Reaches line_datagram ds (n + 1) known others) (append-nil h.datagrams)
      (reaches-next line_datagram h.datagrams n known left others None h.reaches at);
  printed = h.printed;
  stands = h.stands;
}

pub answers-kept : (c : Clock) (first now : State) (n : ℕ) (known left before mid after : Option (List ℕ))
    → Answers c first n known left before mid now
    → Keeps mid after
    → Answers c first n known left before after now
answers-kept c first now n known left before mid after h kept = record {
  datagrams = h.datagrams;
  reaches = h.reaches;
  printed = Appends-kept before mid after _ h.printed kept;
  stands = h.stands;
}

pub answers-turn : (c now_c : Clock) (first now next : State) (n : ℕ) (known left others before mid after : Option (List ℕ)) (d : List ℕ)
    → now_c ≡ c
    → Answers c first n known left before mid now
    → IsNext line_datagram n left others (Ok (Some d))
    → Appends mid after (answered now_c now d)
    → next ≡ (turn now_c now 1 d).next
    → Answers c first (n + 1) known others before after next
answers-turn c now_c first now next n known left others before mid after d same h at wrote is =
    answers-more c first now next n known left others before mid after d h at
    (subst (λ (k : Clock). Appends mid after (answered k now d)) same wrote)
    (is ∙ ap (λ (k : Clock). (turn k now 1 d).next) same)

-- ---- the messages of an outbox

pub all-sent : (es : List (ℕ × ArrayVec ℕ)) (box : List (ℕ × List ℕ)) (n : ℕ)
    → sent es ≡ box
    → (length es == 0) ≡ false
    → length es ≤ n
    → flat_map (λ e. sent_line (e.0, e.1.items)) (take n es) ≡ sent_lines box
all-sent [] box n is some h = absurd (cc)
all-sent (e ∷ es) box n is some h =
    ap (flat_map (λ (x : ℕ × ArrayVec ℕ). sent_line (x.0, x.1.items))) (take_all n (e ∷ es) h)
    ∙ sym (flat_map-map sent_line (λ (x : ℕ × ArrayVec ℕ). (x.0, x.1.items)) (e ∷ es))
    ∙ ap sent_lines is

-- ---- lines, by their pieces

pub named-line : (what : List ℕ) (n : ℕ) (octets name : List ℕ)
    → octets ≡ to_be_bytes w16 n
    → what ++ (text_of_octets octets ++ (32 ∷ (name ++ 10 ∷ []))) ≡ named_line what n name
named-line what n octets name e =
    ap (λ o. what ++ (text_of_octets o ++ (32 ∷ (name ++ 10 ∷ [])))) e ∙ simp append_assoc

pub row-line : (row : RowValue) (octets scope get set command : List ℕ)
    → octets ≡ to_be_bytes w16 row.id
    → scope ≡ scope_text row.scope
    → get ≡ letter (has_action actions.Get row.actions) (codes "G")
    → set ≡ letter (has_action actions.Set row.actions) (codes "S")
    → command ≡ letter (has_action actions.Command row.actions) (codes "C")
    → text_of_octets octets ++ (32 ∷ (row.name ++ (32 ∷ (scope ++ (32 ∷ (get ++ (set ++ (command ++ 10 ∷ []))))))))
    ≡ row_line row
unfolding row_line
row-line row octets scope get set command o s g t c = rw (o, s, g, t, c) (simp append_assoc)

-- ---- the table of ids

abbrev pub table_ids : List ℕ
table_ids = map (λ (e : RowValue). e.id) id_table

pub all-rows : flat_map id_line table_ids ≡ table_lines
unfolding row_of
all-rows = refl

-- ---- messages that are shown
