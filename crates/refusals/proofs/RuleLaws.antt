-- What the first rule that applies says of the rules, and the other way round, over any table.
-- Assumes nothing.
use Prim.Native.Nat.{ℕ}
use mathlib.Core.Path.{◌≡◌, refl, sym, ap, ◌∙◌}
use mathlib.Core.Bool.{Bool, true, false, not, false≢true}
use mathlib.Core.List.{List, [], ◌∷◌, ◌++◌, append-nil, append_assoc}
use borrow.Author.Tests.{eqb-true, eqb-false, not-true}
use lib.Dec.{eqb}
use Rattle.octets.proofs.BoolLaws.{and_both}
use Rattle.std.specs.Prelude.{Result, Ok, Err}
use Rattle.std.specs.Result.{IsErr, IsErrAnd}
use Rattle.refusals.specs.declared.Answer.{Answer}
use Rattle.refusals.specs.declared.Refusal.{Refusal}
use Rattle.refusals.specs.declared.Refusal.TheVariants.{Length, Damaged, NoRoom, BothPublic, AboveMoney, NoAnchor, EqualNullifiers, Spent, OldOutOfRange, PhiOutOfRange, PathAstray, Unbalanced, WrongNullifier, WrongAddress, WrongTag, WrongRho, WrongCommitment, PoolOutside}
use Rattle.refusals.specs.Reasons.{answer_for, as_answer}
use Rattle.refusals.specs.Rules.{Rule, rule, answer_in_row, answer, accepted, is_accepted, first, rules_in, for_each, None, numbered}

-- a test is true or false
pub by_test : {B : Type 0} (b : Bool) → (b ≡ true → B) → (b ≡ false → B) → B
by_test true f g = f refl
by_test false f g = g refl

module _ (r : Rule) (rs : List Rule) where
  pub first_here : r.applies ≡ true → first (r ∷ rs) ≡ answer_in_row r.number r.place r.row
  unfolding first
  first_here h = rw h

  pub first_next : r.applies ≡ false → first (r ∷ rs) ≡ first rs
  unfolding first
  first_next h = rw h

  -- a rule that refuses has a number
  pub numbered_here : numbered (r ∷ rs) ≡ true → r.number ≡ 0 → ⊥
  unfolding numbered
  numbered_here h e = eqb-false r.number 0 (not-true (eqb r.number 0) (and_both (not (eqb r.number 0)) (numbered rs) h).0) e

  pub numbered_next : numbered (r ∷ rs) ≡ true → numbered rs ≡ true
  unfolding numbered
  numbered_next h = (and_both (not (eqb r.number 0)) (numbered rs) h).1

-- no rule applies: accepted; and the other way round, where each rule has a number
pub none_first : (rows : List Rule) → None rows → first rows ≡ accepted
unfolding None first
none_first [] h = refl
none_first (r ∷ rs) h = first_next r rs h.0 ∙ none_first rs h.1

pub first_none : (rows : List Rule) → numbered rows ≡ true → (first rows).number ≡ 0 → None rows
unfolding None
first_none [] n h = tt
first_none (r ∷ rs) n h =
    by_test r.applies
    (λ e. absurd (numbered_here r rs n (ap (λ (a : Answer). a.number) (sym (first_here r rs e)) ∙ h)))
    (λ e. (e, first_none rs (numbered_next r rs n) (ap (λ (a : Answer). a.number) (sym (first_next r rs e)) ∙ h)))

-- rules of which none applies are passed over
pub none_above : (a b : List Rule) → None a → first (a ++ b) ≡ first b
unfolding None
none_above [] b h = refl
none_above (r ∷ a) b h = first_next r (a ++ b) h.0 ∙ none_above a b h.1

-- and so they are behind others
pub none_behind : (a b : List Rule) → None b → first (a ++ b) ≡ first a
unfolding first
none_behind [] b h = none_first b h
none_behind (r ∷ a) b h =
    by_test r.applies
    (λ e. first_here r (a ++ b) e ∙ sym (first_here r a e))
    (λ e. first_next r (a ++ b) e ∙ none_behind a b h ∙ sym (first_next r a e))

-- a table of two parts: the first part's refusal, or else the second part's answer
pub first_refused : (a b : List Rule) → is_accepted (first a) ≡ false → first (a ++ b) ≡ first a
unfolding first
first_refused [] b h = absurd (false≢true (sym h))
first_refused (r ∷ a) b h =
    by_test r.applies
    (λ e. first_here r (a ++ b) e ∙ sym (first_here r a e))
    (λ e. first_next r (a ++ b) e ∙ first_refused a b (ap is_accepted (sym (first_next r a e)) ∙ h) ∙ sym (first_next r a e))

pub first_passed : (a b : List Rule) → numbered a ≡ true → is_accepted (first a) ≡ true → first (a ++ b) ≡ first b
first_passed a b n h = none_above a b (first_none a n (eqb-true (first a).number 0 h))

-- a refusal is no acceptance
pub never_accepted : (refusal : Refusal) → is_accepted (answer_for refusal) ≡ false
never_accepted = elim [ Length ↦ refl | Damaged ↦ refl | NoRoom ↦ refl | BothPublic ↦ refl | AboveMoney i ↦ refl | NoAnchor ↦ refl | EqualNullifiers ↦ refl | Spent i row ↦ refl | OldOutOfRange i ↦ refl | PhiOutOfRange ↦ refl | PathAstray i ↦ refl | Unbalanced ↦ refl | WrongNullifier i ↦ refl | WrongAddress i ↦ refl | WrongTag i ↦ refl | WrongRho i ↦ refl | WrongCommitment i ↦ refl | PoolOutside ↦ refl ]

-- what `?` passes on, told as an answer
pub passed_on : (refusal : Refusal) (asked : Result Unit Refusal) → IsErr asked × IsErrAnd asked (λ (r : Refusal). r ≡ refusal) → as_answer asked ≡ answer_for refusal
passed_on refusal (Err r) h = ap answer_for h.1
passed_on refusal (Ok u) h = absurd h.1

-- a function that asks one refusal after the other, each with `?`: what it passes on is the whole answer, and where it passes nothing on the rest
-- decides
module _ (g : List Rule) (gs : List (List Rule)) where
  pub decided_by : (a : Answer) → is_accepted a ≡ false → a ≡ first g → a ≡ first (rules_in (g ∷ gs))
  unfolding rules_in
  decided_by a n e = e ∙ sym (first_refused g (rules_in gs) (ap is_accepted (sym e) ∙ n))

  pub refused_by : (refusal : Refusal) (asked : Result Unit Refusal) → answer_for refusal ≡ first g → IsErr asked × IsErrAnd asked (λ (r : Refusal). r ≡ refusal)
      → as_answer asked ≡ first (rules_in (g ∷ gs))
  refused_by refusal asked e h = passed_on refusal asked h ∙ decided_by (answer_for refusal) (never_accepted refusal) e

  pub passed_by : (a : Answer) → numbered g ≡ true → accepted ≡ first g → a ≡ first (rules_in gs) → a ≡ first (rules_in (g ∷ gs))
  unfolding rules_in
  passed_by a n e h = h ∙ sym (first_passed g (rules_in gs) n (ap is_accepted (sym e)))

pub rows_append : (gs hs : List (List Rule)) → rules_in (gs ++ hs) ≡ rules_in gs ++ rules_in hs
unfolding rules_in
rows_append [] hs = refl
rows_append (g ∷ gs) hs = ap (λ (l : List Rule). g ++ l) (rows_append gs hs) ∙ sym (append_assoc g (rules_in gs) (rules_in hs))

-- the same for a function that asks a run of refusals at once
module _ (gs hs : List (List Rule)) where
  pub run_refused_by : (refusal : Refusal) (asked : Result Unit Refusal) → answer_for refusal ≡ first (rules_in gs)
      → IsErr asked × IsErrAnd asked (λ (r : Refusal). r ≡ refusal) → as_answer asked ≡ first (rules_in (gs ++ hs))
  run_refused_by refusal asked e h =
      rw (rows_append gs hs) (passed_on refusal asked h ∙ e ∙ sym (first_refused (rules_in gs) (rules_in hs) (ap is_accepted (sym e) ∙ never_accepted refusal)))

  pub run_passed_by : (a : Answer) → numbered (rules_in gs) ≡ true → accepted ≡ first (rules_in gs) → a ≡ first (rules_in hs) → a ≡ first (rules_in (gs ++ hs))
  run_passed_by a n e h = rw (rows_append gs hs) (h ∙ sym (first_passed (rules_in gs) (rules_in hs) n (ap is_accepted (sym e))))

pub last_group : (g : List Rule) → first g ≡ first (rules_in (g ∷ []))
unfolding rules_in
last_group g = ap first (sym (append-nil g))

-- a refusal with one rule
module _ (test : Bool) (n p : ℕ) where
  pub one_holds : test ≡ true → answer n p ≡ first (rule test n p ∷ [])
  unfolding first
  one_holds h = rw h

  pub one_fails : test ≡ false → accepted ≡ first (rule test n p ∷ [])
  unfolding first
  one_fails h = rw h

  pub one_passed : (n ≡ 0 → ⊥) → is_accepted (first (rule test n p ∷ [])) ≡ true → test ≡ false
  one_passed z h = by_test test (λ e. absurd (z (eqb-true n 0 (ap is_accepted (one_holds e) ∙ h)))) (λ e. e)

-- a refusal of a pair
module _ (test : ℕ → Bool) (n : ℕ) where
  pub each_first : test 1 ≡ true → answer n 1 ≡ first (for_each test n)
  unfolding first
  each_first h = rw h

  pub each_second : test 1 ≡ false → test 2 ≡ true → answer n 2 ≡ first (for_each test n)
  unfolding first
  each_second h k = rw (h, k)

  pub each_none : test 1 ≡ false → test 2 ≡ false → accepted ≡ first (for_each test n)
  unfolding first
  each_none h k = rw (h, k)
