-- A table whose tests decide some sentences answers by these sentences.
-- Assumes nothing.
use Prim.Native.Nat.{ℕ, ◌<◌, ◌≤◌}
use mathlib.Core.Path.{◌≡◌, refl, sym, ap, ap₂, ◌∙◌}
use mathlib.Core.Logic.{◌↔◌, ◌⊎◌, inl, inr, ⊎_elim}
use mathlib.Core.Bool.{Bool, true, false, not, ◌&&◌, ◌||◌, true≢false, false≢true}
use mathlib.Core.List.{List, [], ◌∷◌}
use native.Mathlib.Nat.{lt_of_not-le}
use borrow.Author.Tests.{eqb-true, eq-eqb, ltb-true, lt-ltb, le-ltb, leb-true, le-leb}
use lib.Dec.{eqb, leb, ltb}
use Rattle.octets.specs.Parts.{same}
use Rattle.octets.proofs.PartLaws.{same_eq, same_refl}
use Rattle.refusals.specs.declared.Answer.{Answer}
use Rattle.refusals.specs.Rules.{Rule, answer, without_row, first, None, numbered}
use Rattle.refusals.specs.Sentences.{Sentence, NoneHolds, FirstHolds, AnswersBy}
use Rattle.refusals.proofs.RuleLaws.{by_test, first_here, first_next, none_first, first_none}

-- the test holds exactly when the proposition does
abbrev pub Tells : Bool → Type 0 → Type 0
Tells test P = (test ≡ true) ↔ P

pub tells_equal : {a b : ℕ} → Tells (eqb a b) (a ≡ b)
tells_equal {a} {b} = (eqb-true a b, eq-eqb a b)

pub tells_below : {a b : ℕ} → Tells (ltb a b) (a < b)
tells_below {a} {b} = (ltb-true a b, lt-ltb a b)

pub tells_at_most : {a b : ℕ} → Tells (leb a b) (a ≤ b)
tells_at_most {a} {b} = (leb-true a b, le-leb a b)

-- above, as not being at most
pub tells_above : {a b : ℕ} → Tells (ltb a b) (b ≤ a → ⊥)
tells_above {a} {b} = (λ h l. true≢false (sym h ∙ le-ltb a b l), λ n. lt-ltb a b (lt_of_not-le n))

pub tells_not : {b : Bool} {P : Type 0} → Tells b P → Tells (not b) (P → ⊥)
tells_not {b = true} t = (λ h. absurd (false≢true h), λ n. absurd (n (t.0 refl)))
tells_not {b = false} t = (λ h p. false≢true (t.1 p), λ n. refl)

pub tells_both : {a b : Bool} {P Q : Type 0} → Tells a P → Tells b Q → Tells (a && b) (P × Q)
tells_both {a = true} p q = (λ h. (p.0 refl, q.0 h), λ x. q.1 x.1)
tells_both {a = false} p q = (λ h. absurd (false≢true h), λ x. p.1 x.0)

pub tells_either : {a b : Bool} {P Q : Type 0} → Tells a P → Tells b Q → Tells (a || b) (P ⊎ Q)
tells_either {a = true} p q = (λ h. inl (p.0 refl), λ x. refl)
tells_either {a = false} p q = (λ h. inr (q.0 h), ⊎_elim (λ x. absurd (false≢true (p.1 x))) q.1)

pub tells_same : {s t : List ℕ} → Tells (same s t) (s ≡ t)
tells_same {s} {t} = (same_eq s t, λ e. rw e (same_refl t))

pub tells_true : {b : Bool} → Tells b (b ≡ true)
tells_true = (λ h. h, λ h. h)

-- where the test fails, the proposition does, and the other way round
pub denied : {b : Bool} {P : Type 0} → Tells b P → b ≡ false → P → ⊥
denied t e p = true≢false (sym (t.1 p) ∙ e)

pub fails : {b : Bool} {P : Type 0} → Tells b P → (P → ⊥) → b ≡ false
fails {b} t n = by_test b (λ e. absurd (n (t.0 e))) (λ e. e)

-- rule by rule: the test decides the sentence, and number and place are the same
infixr 1 ◌&◌
pub data Agree : List Rule → List Sentence → Type 1 where
  done : Agree [] []
  ◌&◌ : {b : Bool} {n p k : ℕ} {P : Type 0} {rs : List Rule} {ss : List Sentence} → Tells b P → Agree rs ss
      → Agree (record { applies = b; number = n; place = p; row = k } ∷ rs) (record { Holds = P; number = n; place = p } ∷ ss)

none_holds : {rs : List Rule} {ss : List Sentence} → Agree rs ss → None rs → NoneHolds ss
unfolding None NoneHolds
none_holds done h = tt
none_holds (t & a) h = (denied t h.0, none_holds a h.1)

none_applies : {rs : List Rule} {ss : List Sentence} → Agree rs ss → NoneHolds ss → None rs
unfolding None NoneHolds
none_applies done h = tt
none_applies (t & a) h = (fails t h.0, none_applies a h.1)

holds_first : {rs : List Rule} {ss : List Sentence} → Agree rs ss → (n p : ℕ) → FirstHolds ss n p → without_row (first rs) ≡ answer n p
unfolding FirstHolds
holds_first done n p h = absurd h
holds_first (t & a) n p (inl h) = ap without_row (first_here _ _ (t.1 h.0)) ∙ ap₂ answer h.1.0 h.1.1
holds_first (t & a) n p (inr h) = ap without_row (first_next _ _ (fails t h.0)) ∙ holds_first a n p h.1

first_holds : {rs : List Rule} {ss : List Sentence} → Agree rs ss → (n p : ℕ) → (n ≡ 0 → ⊥) → without_row (first rs) ≡ answer n p → FirstHolds ss n p
unfolding FirstHolds first
first_holds done n p z e = absurd (z (sym (ap (λ (x : Answer). x.number) e)))
first_holds (◌&◌ {b} {rs = rs} t a) n p z e =
    by_test b
    (λ h. let g = ap without_row (sym (first_here _ rs h)) ∙ e in inl (t.0 h, (ap (λ (x : Answer). x.number) g, ap (λ (x : Answer). x.place) g)))
    (λ h. inr (denied t h, first_holds a n p z (ap without_row (sym (first_next _ rs h)) ∙ e)))

-- THE LAW
pub answers_by : {rs : List Rule} {ss : List Sentence} → numbered rs ≡ true → Agree rs ss → AnswersBy ss (first rs)
answers_by {rs} n a =
    record {
      refused = holds_first a;
      refused_only = first_holds a;
      passed = λ h. none_first rs (none_applies a h);
      passed_only = λ h. none_holds a (first_none rs n h);
    }
