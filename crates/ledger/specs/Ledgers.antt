-- The ledger: room, damage, what it refuses, and what opening, closing a block and an accepted case make of it. t is the nullifier table's lent
-- bytes, r the anchor roll's, l the counts, record and pool.
-- Assumes nothing.
use Rattle.std.specs.Prelude.{ℕ, ◌+◌, ◌-◌, ◌*◌, ◌/◌, ◌%◌, ◌≤◌, min, ◌≡◌, Bool, true, false, cond, not, ◌||◌, List, [], ◌∷◌, eqb, ltb, leb, length}
use Rattle.octets.specs.Parts.{pasted}
use Rattle.octets.specs.Rows.{rows_of}
use Rattle.units.specs.Limits.{max_money}
use Rattle.refusals.specs.Rules.{Rule, rule_in_row, rule, rules_in, first, is_accepted}
use Rattle.nodes.specs.CommitmentTree.{tree_root}
use Rattle.tree.specs.Record.{fresh_of, grown, record_root}
use Rattle.ledger.specs.declared.Ledger.{Ledger}
use Rattle.ledger.specs.Sorted.{rising}
use Rattle.ledger.specs.Rows.{byte_order, Fresh, among, row_number_of}

-- how many rows a lent length holds, and at most so many
abbrev pub most_nullifiers : ℕ
most_nullifiers = 65536

abbrev pub most_anchors : ℕ
most_anchors = 4096

unfoldable pub room_in : ℕ → ℕ → ℕ
room_in most len = min (len / 32) most

-- the rows in use
unfoldable pub spent_rows : List ℕ → Ledger → List (List ℕ)
spent_rows t l = rows_of l.nullifiers t

unfoldable pub anchor_rows : List ℕ → Ledger → List (List ℕ)
anchor_rows r l = rows_of l.anchors r

-- THE POOL, from zero to all money: what it would be with so much put in and so much taken out, and whether that is outside. A difference here stops at
-- zero, so whether it would be below zero is asked by a sum
unfoldable pub pool_after : ℕ → ℕ → ℕ → ℕ
pool_after pool old new = pool + old - new

unfoldable pub outside : ℕ → ℕ → ℕ → Bool
outside pool old new = ltb (pool + old) new || ltb max_money (pool_after pool old new)

-- damage: any of these, and nothing else
unfoldable pub damage : List ℕ → List ℕ → Ledger → List Bool
damage t r l =
    not (eqb (l.nullifiers % 2) 0)
    ∷ ltb (room_in most_nullifiers (length t)) l.nullifiers
    ∷ not (rising byte_order (spent_rows t l))
    ∷ not (eqb l.tree.leaves l.nullifiers)
    ∷ eqb l.anchors 0
    ∷ ltb (room_in most_anchors (length r)) l.anchors
    ∷ ltb max_money l.pool.0
    ∷ []

unfoldable pub some : List Bool → Bool
some [] = false
some (b ∷ bs) = b || some bs

unfoldable pub damaged : List ℕ → List ℕ → Ledger → Bool
damaged t r l = some (damage t r l)

-- what a ledger refuses of a case's public part: its anchor, its two nullifiers and its public values
unfoldable pub no2 : List ℕ → List ℕ → Ledger → List Rule
no2 t r l = rule (damaged t r l) 2 0 ∷ []

-- fewer than two free nullifier rows
unfoldable pub no3 : List ℕ → Ledger → List Rule
no3 t l = rule (ltb (room_in most_nullifiers (length t)) (l.nullifiers + 2)) 3 0 ∷ []

-- the anchor is not on the roll
unfoldable pub no6 : List ℕ → Ledger → List ℕ → List Rule
no6 r l anchor = rule (not (among anchor (anchor_rows r l))) 6 0 ∷ []

-- nullifier i is in the table; the refusal carries its row
unfoldable pub no8 : List ℕ → Ledger → List ℕ → List ℕ → List Rule
no8 t l one two =
    rule_in_row (among one (spent_rows t l)) 8 1 (row_number_of one (spent_rows t l)) ∷ rule_in_row (among two (spent_rows t l)) 8 2 (row_number_of two (spent_rows t l)) ∷ []

-- acceptance would take the pool outside its bounds
unfoldable pub no17 : ℕ → ℕ → ℕ → List Rule
no17 pool old new = rule (outside pool old new) 17 0 ∷ []

unfoldable pub ledger_refusals : List ℕ → List ℕ → Ledger → List ℕ → List ℕ → List ℕ → ℕ → ℕ → List Rule
ledger_refusals t r l anchor one two old new = rules_in (no2 t r l ∷ no3 t l ∷ no6 r l anchor ∷ no8 t l one two ∷ no17 l.pool.0 old new ∷ [])

-- ENTERING an accepted case: both nullifiers, then commitment 1 and commitment 2, then the public values
unfoldable pub entered_of : Ledger → List ℕ → List ℕ → ℕ → ℕ → Ledger
entered_of l commitment1 commitment2 old new =
    record {
      nullifiers = l.nullifiers + 2;
      anchors = l.anchors;
      tree = grown l.tree (commitment1 ∷ commitment2 ∷ []);
      pool = record { 0 = pool_after l.pool.0 old new };
    }

-- what has to hold before: room, order, two new nullifiers, and a pool that stays in its bounds
pub record Ready (t : List ℕ) (l : Ledger) (one two : List ℕ) (old new : ℕ) : Type 0 where
  pub room : l.nullifiers + 2 ≤ room_in most_nullifiers (length t)
  pub rises : rising byte_order (spent_rows t l) ≡ true
  pub fresh : Fresh l.nullifiers t one two
  pub pool : outside l.pool.0 old new ≡ false

-- CLOSING a block: damage, then no free row of the roll; else the current root is the roll's next row
unfoldable pub close_refusals : List ℕ → List ℕ → Ledger → List Rule
close_refusals t r l = rules_in (no2 t r l ∷ (rule (leb (room_in most_anchors (length r)) l.anchors) 3 0 ∷ []) ∷ [])

unfoldable pub closed_of : List ℕ → List ℕ → Ledger → Ledger
closed_of t r l =
    cond (is_accepted (first (close_refusals t r l))) (record { nullifiers = l.nullifiers; anchors = l.anchors + 1; tree = l.tree; pool = l.pool }) l

unfoldable pub roll_after_close : List ℕ → List ℕ → Ledger → List ℕ
roll_after_close t r l = cond (is_accepted (first (close_refusals t r l))) (pasted (l.anchors * 32) (record_root l.tree) r) r

-- OPENING: nothing spent, no leaf, nothing in the pool, and the root of the tree with no leaf for an anchor. Where the roll has no row to write it in,
-- that is refused, and there is no anchor either
unfoldable pub empty_ledger : ℕ → Ledger
empty_ledger anchors = record { nullifiers = 0; anchors = anchors; tree = fresh_of; pool = record { 0 = 0 } }

abbrev pub fresh_ledger : Ledger
fresh_ledger = empty_ledger 1

unfoldable pub open_refusals : List ℕ → List Rule
open_refusals r = rule (eqb (room_in most_anchors (length r)) 0) 1 0 ∷ []

unfoldable pub opened_of : List ℕ → Ledger
opened_of r = cond (is_accepted (first (open_refusals r))) fresh_ledger (empty_ledger 0)

unfoldable pub roll_after_open : List ℕ → List ℕ
roll_after_open r = cond (is_accepted (first (open_refusals r))) (pasted 0 (tree_root []) r) r
