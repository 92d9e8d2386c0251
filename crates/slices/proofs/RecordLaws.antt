-- A record's bytes: which case they hold, and what is read after something was written. Nothing that is written lies on anything else.
-- Assumes nothing.
use Prim.Native.Nat.{ℕ, ◌+◌, ◌<◌, ◌≤◌}
use mathlib.Core.Path.{◌≡◌, refl, sym, ap, ◌∙◌}
use mathlib.Core.Bool.{true, false}
use mathlib.Core.Logic.{◌⊎◌, inl, inr}
use mathlib.Core.List.{List, [], ◌∷◌}
use native.Mathlib.Omega.{arith}
use borrow.Author.Tests.{eq-eqb, ne_eqb, le-leb}
use lib.ListN.{length, get_or, take, drop}
use Rattle.octets.specs.Parts.{listed, field, pasted}
use Rattle.octets.specs.Numbers.{little_bytes}
use Rattle.octets.proofs.PartLaws.{field_part, field_at, field_field, pasted_length, pasted_field, pasted_before, pasted_behind}
use Rattle.octets.proofs.NumberLaws.{little_bytes_lem, little_bytes_length}
use Rattle.refusals.specs.declared.Answer.{Answer}
use Rattle.units.specs.declared.Which.{Which}
use Rattle.units.specs.declared.Which.TheVariants.{First, Second}
use Rattle.units.specs.Pairs.{number_of}
use Rattle.casefile.specs.Layout.{case_length, first_proof}
use Rattle.casefile.specs.Fields.{has_length}
use Rattle.casefile.proofs.Editions.{first_long, second_long, two_lengths}
use Rattle.slices.specs.Records.{judgement_length, node_at, steps_in, held_length, case_in, holds_case, node_in, answer_in, with_steps, with_node, with_answer, edition_of, with_case, without_case}

-- the edition of a case, by its length
module _ (c : List ℕ) where
  pub is_first : length c ≡ 4210 → 1 ≡ edition_of c
  unfolding edition_of
  is_first h = rw (eq-eqb (length c) (case_length first_proof) (h ∙ sym first_long))

  pub is_second : (length c ≡ 4210 → ⊥) → 2 ≡ edition_of c
  unfolding edition_of
  is_second h = rw (ne_eqb (length c) (case_length first_proof) (λ e. h (e ∙ first_long)))

  -- and back
  edition_length : has_length c ≡ true → held_length (edition_of c) ≡ length c
  unfolding held_length
  edition_length h = go ((two_lengths c).0 h)
    where
      go : (length c ≡ 4210) ⊎ (length c ≡ 4106) → held_length (edition_of c) ≡ length c
      go (inl e) = rw (← is_first e) (first_long ∙ sym e)
      go (inr e) = rw (← is_second (λ f. omega arith)) (second_long ∙ sym e)

-- THE CASE, by the record's length and its edition
module _ (b : List ℕ) where
  pub no_record : (length b ≡ judgement_length → ⊥) → [] ≡ case_in b
  unfolding case_in
  no_record h = rw (ne_eqb (length b) judgement_length h)

  module _ (l : length b ≡ judgement_length) where
    pub whole : case_in b ≡ field 70 (held_length (get_or b 1 0)) b
    unfolding case_in
    whole = rw (eq-eqb (length b) judgement_length l)

    pub first_edition : get_or b 1 0 ≡ 1 → take 4210 (drop 70 b) ≡ case_in b
    unfolding held_length
    first_edition e = sym (whole ∙ rw (e, first_long) (field_part 70 4210 b (omega arith)))

    pub second_edition : get_or b 1 0 ≡ 2 → take 4106 (drop 70 b) ≡ case_in b
    unfolding held_length
    second_edition e = sym (whole ∙ rw (e, second_long) (field_part 70 4106 b (omega arith)))

    pub no_edition : (get_or b 1 0 ≡ 1 → ⊥) → (get_or b 1 0 ≡ 2 → ⊥) → [] ≡ case_in b
    unfolding held_length field listed
    no_edition e f = sym (whole ∙ rw (ne_eqb (get_or b 1 0) 1 e, ne_eqb (get_or b 1 0) 2 f))

-- no bytes are no case, so what holds one is a record
pub nothing_long : (c : List ℕ) → [] ≡ c → has_length c ≡ false
unfolding has_length
nothing_long c e = rw (← e, first_long, second_long)

-- WHAT IS PASTED elsewhere leaves a part, and a byte
kept : (at : ℕ) (t s : List ℕ) (b n : ℕ) → at + length t ≤ length s → (b + n ≤ at) ⊎ (at + length t ≤ b) → field b n (pasted at t s) ≡ field b n s
kept at t s b n h (inl k) = pasted_before at t s b n h k
kept at t s b n h (inr k) = pasted_behind at t s b n h k

one_byte : (s : List ℕ) (i : ℕ) → get_or (field i 1 s) 0 0 ≡ get_or s i 0
one_byte s i = field_at i 1 s 0 (omega arith) ∙ ap (λ (j : ℕ). get_or s j 0) (omega arith)

byte_kept : (at : ℕ) (t s : List ℕ) (i : ℕ) → at + length t ≤ length s → (i + 1 ≤ at) ⊎ (at + length t ≤ i) → get_or (pasted at t s) i 0 ≡ get_or s i 0
byte_kept at t s i h k = sym (one_byte (pasted at t s) i) ∙ ap (λ (x : List ℕ). get_or x 0 0) (kept at t s i 1 h k) ∙ one_byte s i

-- a byte of what is pasted is there
byte_put : (at : ℕ) (t s : List ℕ) (i : ℕ) → at + length t ≤ length s → i < length t → get_or (pasted at t s) (at + i) 0 ≡ get_or t i 0
byte_put at t s i h k = sym (field_at at (length t) (pasted at t s) i k) ∙ ap (λ (x : List ℕ). get_or x i 0) (pasted_field at t s h)

-- SOMETHING WRITTEN IN FRONT OF THE CASE leaves all that it does not lie on
module _ (b : List ℕ) (l : length b ≡ judgement_length) (at : ℕ) (t : List ℕ) (fits : at + length t ≤ 70) where
  inside : at + length t ≤ length b
  inside = omega (arith, l, fits)

  pub steps_kept : 1 ≤ at → steps_in (pasted at t b) ≡ steps_in b
  unfolding steps_in
  steps_kept h = byte_kept at t b 0 inside (inl h)

  pub case_kept : (at + length t ≤ 1) ⊎ (2 ≤ at) → case_in (pasted at t b) ≡ case_in b
  case_kept h = whole (pasted at t b) (pasted_length at t b ∙ l) ∙ rw (byte_kept at t b 1 inside (turn h)) (kept at t b 70 (held_length (get_or b 1 0)) inside (inr fits)) ∙ sym (whole b l)
    where
      turn : (at + length t ≤ 1) ⊎ (2 ≤ at) → (1 + 1 ≤ at) ⊎ (at + length t ≤ 1)
      turn (inl k) = inr k
      turn (inr k) = inl k

  pub node_kept : (i : ℕ) → (node_at i + 32 ≤ at) ⊎ (at + length t ≤ node_at i) → node_in i (pasted at t b) ≡ node_in i b
  unfolding node_in
  node_kept i h = kept at t b (node_at i) 32 inside h

  pub answer_kept : (6 ≤ at) ⊎ (at + length t ≤ 2) → answer_in (pasted at t b) ≡ answer_in b
  unfolding answer_in
  answer_kept h =
      rw (byte_kept at t b 2 inside (turn 2 1 (omega arith) (omega arith) h), byte_kept at t b 3 inside (turn 3 1 (omega arith) (omega arith) h), kept at t b 4 2 inside (turn 4 2 (omega arith) (omega arith) h))
    where
      turn : (p n : ℕ) → 2 ≤ p → p + n ≤ 6 → (6 ≤ at) ⊎ (at + length t ≤ 2) → (p + n ≤ at) ⊎ (at + length t ≤ p)
      turn p n low high (inl k) = inl (omega arith)
      turn p n low high (inr k) = inr (omega arith)

module _ (b : List ℕ) (l : length b ≡ judgement_length) where
  -- THE STEPS
  module _ (n : ℕ) where
    pub steps_long : length (with_steps n b) ≡ judgement_length
    unfolding with_steps
    steps_long = pasted_length 0 (n ∷ []) b ∙ l

    pub steps_put : steps_in (with_steps n b) ≡ n
    unfolding with_steps steps_in
    steps_put = byte_put 0 (n ∷ []) b 0 (omega (arith, l)) (omega arith)

    pub steps_case : case_in (with_steps n b) ≡ case_in b
    unfolding with_steps
    steps_case = case_kept b l 0 (n ∷ []) (omega arith) (inl (omega arith))

    pub steps_node : (i : ℕ) → node_in i (with_steps n b) ≡ node_in i b
    unfolding with_steps
    steps_node i = node_kept b l 0 (n ∷ []) (omega arith) i (inr (omega arith))

    pub steps_answer : answer_in (with_steps n b) ≡ answer_in b
    unfolding with_steps
    steps_answer = answer_kept b l 0 (n ∷ []) (omega arith) (inr (omega arith))

  -- A NODE of 32 bytes
  module _ (i : Which) (x : List ℕ) (h : length x ≡ 32) where
    node_fits : (6 ≤ node_at (number_of i)) × (node_at (number_of i) + length x ≤ 70)
    node_fits = go i
      where
        go : (j : Which) → (6 ≤ node_at (number_of j)) × (node_at (number_of j) + length x ≤ 70)
        go First = (omega arith, omega (arith, h))
        go Second = (omega arith, omega (arith, h))

    pub node_long : length (with_node (number_of i) x b) ≡ judgement_length
    unfolding with_node
    node_long = pasted_length (node_at (number_of i)) x b ∙ l

    pub node_steps : steps_in (with_node (number_of i) x b) ≡ steps_in b
    unfolding with_node
    node_steps = steps_kept b l (node_at (number_of i)) x node_fits.1 (omega (arith, node_fits.0))

    pub node_case : case_in (with_node (number_of i) x b) ≡ case_in b
    unfolding with_node
    node_case = case_kept b l (node_at (number_of i)) x node_fits.1 (inr (omega (arith, node_fits.0)))

    pub node_put : node_in (number_of i) (with_node (number_of i) x b) ≡ x
    unfolding with_node node_in
    node_put = ap (λ (n : ℕ). field (node_at (number_of i)) n (pasted (node_at (number_of i)) x b)) (sym h) ∙ pasted_field (node_at (number_of i)) x b (omega (arith, l, node_fits.1))

    pub node_answer : answer_in (with_node (number_of i) x b) ≡ answer_in b
    unfolding with_node
    node_answer = answer_kept b l (node_at (number_of i)) x node_fits.1 (inl node_fits.0)

  -- the other node stays
  pub first_beside : (x : List ℕ) → length x ≡ 32 → node_in 1 (with_node 2 x b) ≡ node_in 1 b
  unfolding with_node
  first_beside x h = node_kept b l 38 x (omega (arith, h)) 1 (inl (omega arith))

  pub second_beside : (x : List ℕ) → length x ≡ 32 → node_in 2 (with_node 1 x b) ≡ node_in 2 b
  unfolding with_node
  second_beside x h = node_kept b l 6 x (omega (arith, h)) 2 (inr (omega (arith, h)))

  -- AN ANSWER that a case can get
  module _ (a : Answer) where
    abbrev bytes : List ℕ
    bytes = a.number ∷ a.place ∷ little_bytes 2 a.row.0

    bytes_long : length bytes ≡ 4
    bytes_long = omega (arith, little_bytes_length 2 a.row.0)

    answer_inside : 2 + length bytes ≤ length b
    answer_inside = omega (arith, l, bytes_long)

    pub answer_long : length (with_answer a b) ≡ judgement_length
    unfolding with_answer
    answer_long = pasted_length 2 bytes b ∙ l

    pub answer_steps : steps_in (with_answer a b) ≡ steps_in b
    unfolding with_answer
    answer_steps = steps_kept b l 2 bytes (omega (arith, bytes_long)) (omega arith)

    pub answer_case : case_in (with_answer a b) ≡ case_in b
    unfolding with_answer
    answer_case = case_kept b l 2 bytes (omega (arith, bytes_long)) (inr (omega arith))

    pub answer_node : (i : ℕ) → node_in i (with_answer a b) ≡ node_in i b
    unfolding with_answer
    answer_node i = node_kept b l 2 bytes (omega (arith, bytes_long)) i (inr (omega (arith, bytes_long)))

    last_two : field 2 2 bytes ≡ little_bytes 2 a.row.0
    unfolding field listed little_bytes
    last_two = refl

    row_put : field 4 2 (pasted 2 bytes b) ≡ little_bytes 2 a.row.0
    row_put =
        sym (field_field 2 4 2 2 (pasted 2 bytes b) (omega arith))
        ∙ ap (field 2 2) (ap (λ (n : ℕ). field 2 n (pasted 2 bytes b)) (sym bytes_long) ∙ pasted_field 2 bytes b answer_inside)
        ∙ last_two

    pub answer_put : a.number ≤ 17 → a.row.0 < 65536 → answer_in (with_answer a b) ≡ a
    unfolding with_answer answer_in
    answer_put h k =
        rw (byte_put 2 bytes b 0 answer_inside (omega (arith, bytes_long)), byte_put 2 bytes b 1 answer_inside (omega (arith, bytes_long)), le-leb a.number 17 h, row_put, little_bytes_lem 2 a.row.0 k)

  -- A CASE taken in
  module _ (c : List ℕ) (w : has_length c ≡ true) where
    abbrev front : List ℕ
    front = 0 ∷ edition_of c ∷ 0 ∷ 0 ∷ 0 ∷ 0 ∷ []

    abbrev headed : List ℕ
    headed = pasted 0 front b

    headed_long : length headed ≡ judgement_length
    headed_long = pasted_length 0 front b ∙ l

    case_inside : 70 + length c ≤ length headed
    case_inside = go ((two_lengths c).0 w)
      where
        go : (length c ≡ 4210) ⊎ (length c ≡ 4106) → 70 + length c ≤ length headed
        go (inl e) = omega (arith, e, headed_long)
        go (inr e) = omega (arith, e, headed_long)

    pub taken_long : length (with_case c b) ≡ judgement_length
    unfolding with_case
    taken_long = pasted_length 70 c headed ∙ headed_long

    pub taken_steps : steps_in (with_case c b) ≡ 0
    unfolding with_case steps_in
    taken_steps = byte_kept 70 c headed 0 case_inside (inl (omega arith)) ∙ byte_put 0 front b 0 (omega (arith, l)) (omega arith)

    pub taken_case : case_in (with_case c b) ≡ c
    unfolding with_case
    taken_case =
        whole (with_case c b) taken_long
        ∙ ap (λ (n : ℕ). field 70 (held_length n) (with_case c b)) (byte_kept 70 c headed 1 case_inside (inl (omega arith)) ∙ byte_put 0 front b 1 (omega (arith, l)) (omega arith))
        ∙ ap (λ (n : ℕ). field 70 n (with_case c b)) (edition_length c w)
        ∙ pasted_field 70 c headed case_inside

  -- NO CASE taken in
  pub untaken : holds_case (without_case b) ≡ false
  unfolding holds_case without_case
  untaken =
      let none : get_or (without_case b) 1 0 ≡ 0 = byte_put 0 (1 ∷ 0 ∷ 1 ∷ 0 ∷ 0 ∷ 0 ∷ []) b 1 (omega (arith, l)) (omega arith) in
      nothing_long (case_in (without_case b))
      (no_edition (without_case b) (pasted_length 0 (1 ∷ 0 ∷ 1 ∷ 0 ∷ 0 ∷ 0 ∷ []) b ∙ l) (λ e. omega (arith, none, e)) (λ e. omega (arith, none, e)))
