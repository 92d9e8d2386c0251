-- THE LIMITS of document 01, each at what is allowed and at one more, as tests of the definitions, and the one statement that all of them pass. A limit that
-- was moved in definition and code alike is told by its number here.
-- Assumes nothing.
use Prim.Native.Nat.{ℕ, zero, suc, ◌+◌, ◌*◌, ◌^◌, ◌<◌, ◌≤◌}
use mathlib.Core.Path.{◌≡◌, refl, sym, ◌∙◌}
use mathlib.Core.Logic.{◌⊎◌, inl, inr}
use mathlib.Core.Bool.{Bool, true, false, not, ◌&&◌, and-true}
use mathlib.Core.List.{List, [], ◌∷◌, ◌++◌}
use native.Mathlib.Omega.{arith}
use borrow.Author.Tests.{eq-eqb, le-leb, lt-leb, le-ltb, lt-ltb}
use lib.Dec.{eqb, leb}
use lib.ListN.{length}
use Rattle.octets.specs.Parts.{zeros, field, listed}
use Rattle.octets.specs.Rows.{rows_of}
use Rattle.octets.specs.Numbers.{little, little_bytes}
use Rattle.octets.proofs.NumberLaws.{little_bytes_lem}
use Rattle.octets.proofs.PartLaws.{zeros_length}
use Rattle.units.specs.Limits.{tree_leaves}
use Rattle.refusals.specs.Rules.{rules_in, first, answer, accepted}
use Rattle.refusals.proofs.RuleLaws.{by_test, one_holds, one_fails}
use Rattle.sprout.specs.Hashes.{has_top_bits}
use Rattle.statement.specs.CaseRefusals.{above_money, out_of_range, unbalanced}
use Rattle.tree.specs.Record.{fresh_of}
use Rattle.ledger.specs.declared.Ledger.{Ledger}
use Rattle.ledger.specs.Sorted.{rising}
use Rattle.ledger.specs.Ledgers.{most_nullifiers, most_anchors, room_in, spent_rows, pool_after, outside, damage, some, damaged, no2, no3, close_refusals}
use Rattle.ledger.proofs.Soundness.{Sound, undamaged, at_most}
use Rattle.bag.specs.Contents.{row_count, entry_of, in_order, laid_out}
use Rattle.books.specs.Tally.{is_full}

-- each test passes
every : List Bool → Bool
every [] = true
every (b ∷ bs) = b && every bs

-- a lent length of so many rows and so many bytes more holds so many rows
holds : ℕ → ℕ → ℕ → ℕ → Bool
holds most rows more room = eqb (room_in most (rows * 32 + more)) room

-- a bag of n rows whose bodies are all empty
empty_rows : ℕ → ℕ → ℕ → List ℕ
empty_rows zero kind at = []
empty_rows (suc n) kind at = (kind ∷ []) ++ little_bytes 4 at ++ little_bytes 4 0 ++ empty_rows n 2 at

empty_bag : ℕ → List ℕ
empty_bag n = little_bytes 2 n ++ empty_rows n 1 (2 + 9 * n)

-- a fresh ledger but for its pool
with_pool : ℕ → Ledger
with_pool n = record { nullifiers = 0; anchors = 1; tree = fresh_of; pool = record { 0 = n } }

limits : List Bool
limits =
    -- rows of a table: rounded down, and 65,536 at most
    holds most_nullifiers 0 31 0
    ∷ holds most_nullifiers 1 0 1
    ∷ holds most_nullifiers 2048 0 2048
    ∷ holds most_nullifiers 2049 31 2049
    ∷ holds most_nullifiers 65535 31 65535
    ∷ holds most_nullifiers 65536 0 65536
    ∷ holds most_nullifiers 65537 0 65536
    ∷ holds most_nullifiers 1048576 0 65536
    -- rows of a roll: 4,096 at most
    ∷ holds most_anchors 0 31 0
    ∷ holds most_anchors 1 0 1
    ∷ holds most_anchors 1024 0 1024
    ∷ holds most_anchors 1025 31 1025
    ∷ holds most_anchors 4095 31 4095
    ∷ holds most_anchors 4096 0 4096
    ∷ holds most_anchors 4097 0 4096
    ∷ holds most_anchors 65536 0 4096
    -- leaves of the tree, and positions
    ∷ eqb tree_leaves 536870912
    ∷ not (out_of_range (15 ∷ []) 536870911)
    ∷ out_of_range (15 ∷ []) 536870912
    -- keys of 252 bits
    ∷ out_of_range (16 ∷ []) 0
    -- all money
    ∷ not (above_money 2100000000000000)
    ∷ above_money 2100000000000001
    -- the pool: from zero
    ∷ not (outside 0 0 0)
    ∷ not (outside 0 1 1)
    ∷ outside 0 0 1
    ∷ outside 0 1 2
    ∷ not (outside 7 0 7)
    ∷ outside 7 0 8
    -- to all money
    ∷ not (outside 2099999999999999 1 0)
    ∷ outside 2099999999999999 2 0
    ∷ not (outside 2100000000000000 0 0)
    ∷ outside 2100000000000000 1 0
    ∷ not (outside 2100000000000000 1 1)
    ∷ not (outside 0 2100000000000000 0)
    ∷ outside 0 2100000000000001 0
    ∷ not (outside 2100000000000000 0 2100000000000000)
    -- a pool that is no damage
    ∷ not (damaged [] (zeros 32) (with_pool 0))
    ∷ not (damaged [] (zeros 32) (with_pool 2100000000000000))
    ∷ damaged [] (zeros 32) (with_pool 2100000000000001)
    ∷ damaged [] (zeros 32) (with_pool 9223372036854775808)
    ∷ damaged [] (zeros 32) (with_pool 18446744073709551615)
    -- a side of the balance, below 2^64, whatever it is the sum of
    ∷ not (unbalanced 0 18446744073709551615 0 0 0 18446744073709551615)
    ∷ not (unbalanced 1 0 18446744073709551614 0 18446744073709551615 0)
    ∷ not (unbalanced 0 18446744073709551615 0 1 0 18446744073709551614)
    ∷ unbalanced 0 18446744073709551615 1 0 1 18446744073709551615
    ∷ unbalanced 1 0 18446744073709551615 0 18446744073709551615 1
    ∷ unbalanced 0 18446744073709551615 1 1 0 18446744073709551615
    ∷ unbalanced 0 18446744073709551615 18446744073709551615 0 18446744073709551615 18446744073709551615
    -- rows of a bag: from 1 to 8
    ∷ not (laid_out (empty_bag 0))
    ∷ laid_out (empty_bag 1)
    ∷ laid_out (empty_bag 2)
    ∷ laid_out (empty_bag 8)
    ∷ not (laid_out (empty_bag 9))
    -- a tally's counts, below 2^32
    ∷ not (is_full 4294967294)
    ∷ is_full 4294967295
    ∷ []

all_limits : every limits ≡ true
unfolding every holds empty_rows empty_bag limits room_in has_top_bits out_of_range above_money pool_after outside damaged damage some spent_rows with_pool fresh_of rows_of rising unbalanced laid_out row_count entry_of in_order field listed little little_bytes
all_limits = refl

-- A BAG'S BYTES, 65,536 at most: of a bag with nothing but a seal's body of n zeros, which keeps to the layout in all else, that alone decides
long_bag : ℕ → List ℕ
long_bag n = (little_bytes 2 1 ++ (1 ∷ []) ++ little_bytes 4 11 ++ little_bytes 4 n) ++ zeros n

long_length : (n : ℕ) → length (long_bag n) ≡ 11 + n
unfolding long_bag little_bytes
long_length n = omega (arith, zeros_length n)

by_length : (n : ℕ) → n < 2 ^ 32 → laid_out (long_bag n) ≡ leb (11 + n) 65536
unfolding laid_out row_count entry_of in_order field listed little long_bag little_bytes
by_length n h =
    let e = long_length n in
    let f : little (little_bytes 4 n) ≡ n = little_bytes_lem 4 n h in
    rw (e, f, eq-eqb (11 + n) (11 + n) refl) (and-true (leb (11 + n) 65536 && true && true) ∙ and-true (leb (11 + n) 65536 && true) ∙ and-true (leb (11 + n) 65536))

longest_bag : (laid_out (long_bag 65525) ≡ true) × (laid_out (long_bag 65526) ≡ false)
longest_bag = (by_length 65525 (omega arith) ∙ le-leb 65536 65536 (omega arith), by_length 65526 (omega arith) ∙ lt-leb 65537 65536 (omega arith))

-- A TABLE AND A ROLL that have all the rows a ledger may use, or more: of the table the last two are room for a case, of the roll the last one is room for a
-- closing, and then there is none
pub full_table : (t : List ℕ) (l : Ledger) → 65536 * 32 ≤ length t → (l.nullifiers ≡ 65534 → first (no3 t l) ≡ accepted) × (l.nullifiers ≡ 65536 → first (no3 t l) ≡ answer 3 0)
unfolding no3 room_in
full_table t l long = (
  λ e. sym (one_fails _ 3 0 (le-ltb (room_in most_nullifiers (length t)) (l.nullifiers + 2) (omega arith))),
  λ e. sym (one_holds _ 3 0 (lt-ltb (room_in most_nullifiers (length t)) (l.nullifiers + 2) (omega arith))),
)

pub full_roll : (t r : List ℕ) (l : Ledger) → damaged t r l ≡ false → 4096 * 32 ≤ length r
    → (l.anchors ≡ 4095 → first (close_refusals t r l) ≡ accepted) × (l.anchors ≡ 4096 → first (close_refusals t r l) ≡ answer 3 0)
unfolding close_refusals no2 first rules_in room_in
full_roll t r l sound long =
    (λ e. rw (sound, lt-leb (room_in most_anchors (length r)) l.anchors (omega arith)), λ e. rw (sound, le-leb (room_in most_anchors (length r)) l.anchors (omega arith)))

-- however long they are, more in use than that is damage
pub too_many : (t r : List ℕ) (l : Ledger) → (65536 < l.nullifiers) ⊎ (4096 < l.anchors) → damaged t r l ≡ true
too_many t r l more = by_test (damaged t r l) (λ yes. yes) (λ no. absurd (go more (undamaged t r l no)))
  where
    go : (65536 < l.nullifiers) ⊎ (4096 < l.anchors) → Sound t r l → ⊥
    go (inl h) s = omega (arith, at_most l.nullifiers most_nullifiers (length t) s.fits)
    go (inr h) s = omega (arith, at_most l.anchors most_anchors (length r) s.roll)
