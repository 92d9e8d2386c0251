-- The refusals of a bag and of its seal in sentences. What a well laid out bag is, is said by what must hold of its rows, and not by a test. b is the bag's
-- bytes, s a seal's body; rows are counted from 0.
-- Assumes nothing.
use Rattle.std.specs.Prelude.{ℕ, ◌+◌, ◌-◌, ◌<◌, ◌≤◌, ◌≡◌, true, false, ◌⊎◌, List, [], ◌∷◌, Float, length}
use Rattle.std.specs.Float.Ieee.{lt, le}
use Rattle.std.specs.Float.Ieee.Scale.{finite}
use Rattle.octets.specs.Parts.{zeros}
use Rattle.refusals.specs.Sentences.{Sentence, refuse}
use Rattle.seal.specs.declared.Calibration.{Calibration}
use Rattle.seal.specs.declared.Gate.{Gate}
use Rattle.seal.specs.declared.Gate.TheVariants.{None, AtLeast, Between}
use Rattle.seal.specs.Body.{kind, low, high}
use Rattle.seal.specs.Pull.{pull_of}
use Rattle.bag.specs.Contents.{row_count, row_start, entry_of, body_of}

-- THE LAYOUT of the rows: the first is the seal's, the others are cases; the first body starts right after the table of contents, each other one where the
-- one before it ends, and the last ends where the bag does
pub record RowsLaidOut (b : List ℕ) : Type 0 where
  pub size : length b ≤ 65536
  pub some : 1 ≤ row_count b
  pub few : row_count b ≤ 8
  pub seal_first : (entry_of 0 b).kind ≡ 1
  pub then_cases : (i : ℕ) → 1 ≤ i → i < row_count b → (entry_of i b).kind ≡ 2
  pub first_body : (entry_of 0 b).offset ≡ row_start (row_count b)
  pub touching : (i : ℕ) → i + 1 < row_count b → (entry_of (i + 1) b).offset ≡ (entry_of i b).offset + (entry_of i b).size
  pub last_body : (entry_of (row_count b - 1) b).offset + (entry_of (row_count b - 1) b).size ≡ length b

-- A SEAL'S BODY: 25 bytes, one of three gate kinds, and zero bytes for a limit that the kind does not use
pub record SealLaidOut (s : List ℕ) : Type 0 where
  pub long : length s ≡ 25
  pub known : kind s ≤ 2
  pub low_unused : kind s < 1 → low s ≡ zeros 8
  pub high_unused : kind s < 2 → high s ≡ zeros 8

pub record LaidOut (b : List ℕ) : Type 0 where
  pub rows : RowsLaidOut b
  pub seal : SealLaidOut (body_of 0 b)

unfoldable pub bag_sentences : List ℕ → List Sentence
bag_sentences b = refuse 20 0 (LaidOut b → ⊥) ∷ []

-- THE SEAL at a gate: a limit that is not finite, or low above high
abbrev pub BadLimit : Gate → Type 0
BadLimit None = ⊥
BadLimit (AtLeast x) = finite x ≡ false
BadLimit (Between x y) = (finite x ≡ false) ⊎ ((finite y ≡ false) ⊎ (lt y x ≡ true))

-- within the gate, ends included
abbrev pub Within : Gate → Float → Type 0
Within None p = Unit {0}
Within (AtLeast x) p = le x p ≡ true
Within (Between x y) p = (le x p ≡ true) × (le p y ≡ true)

unfoldable pub seal_sentences : Calibration → Gate → Float → List Sentence
seal_sentences k g raw =
    refuse 21 0 (BadLimit g) ∷ refuse 22 0 (finite (pull_of raw k) ≡ false) ∷ refuse 23 0 (Within g (pull_of raw k) → ⊥) ∷ []
