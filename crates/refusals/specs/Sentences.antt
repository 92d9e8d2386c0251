-- A table of refusals in sentences: each says, as a proposition and not as a test, when its number and place are given. So an answer can be read as what it
-- claims of a case.
-- Assumes nothing.
use Rattle.std.specs.Prelude.{ℕ, ◌≡◌, ◌⊎◌, List, [], ◌∷◌}
use Rattle.refusals.specs.declared.Answer.{Answer}
use Rattle.refusals.specs.Rules.{answer, without_row, accepted}

-- what holds when a refusal applies, and the refusal's number and place
pub record Sentence : Type 1 where
  pub Holds : Type 0
  pub number : ℕ
  pub place : ℕ

abbrev pub refuse : ℕ → ℕ → Type 0 → Sentence
refuse n p P = record { Holds = P; number = n; place = p }

-- none of them holds
unfoldable pub NoneHolds : List Sentence → Type 0
NoneHolds [] = Unit {0}
NoneHolds (s ∷ ss) = (s.Holds → ⊥) × NoneHolds ss

-- the first that holds has that number and place: it stands on top and holds, or the one on top does not hold and it is the first of the others
unfoldable pub FirstHolds : List Sentence → ℕ → ℕ → Type 0
FirstHolds [] n p = ⊥
FirstHolds (s ∷ ss) n p = (s.Holds × ((s.number ≡ n) × (s.place ≡ p))) ⊎ ((s.Holds → ⊥) × FirstHolds ss n p)

-- AN ANSWER BY SENTENCES: a refusal is given where it is the first that holds, and at no other time; acceptance where none holds, and at no other time.
-- Sentences speak of number and place
pub record AnswersBy (ss : List Sentence) (a : Answer) : Type 0 where
  pub refused : (n p : ℕ) → FirstHolds ss n p → without_row a ≡ answer n p
  pub refused_only : (n p : ℕ) → (n ≡ 0 → ⊥) → without_row a ≡ answer n p → FirstHolds ss n p
  pub passed : NoneHolds ss → a ≡ accepted
  pub passed_only : a.number ≡ 0 → NoneHolds ss

-- the numbers and places that can be given, in the order in which they are asked
unfoldable pub places_of : List Sentence → List Answer
places_of [] = []
places_of (s ∷ ss) = answer s.number s.place ∷ places_of ss

-- one of several propositions holds
unfoldable pub OneOf : List (Type 0) → Type 0
OneOf [] = ⊥
OneOf (P ∷ Ps) = P ⊎ OneOf Ps
