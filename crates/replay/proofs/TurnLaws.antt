-- What a run of an entry's calls leaves and writes is the turn of the definition. n and m are the bytes lent of the buffers t and r, p and q what the
-- calls left in them, x and x' the page before and after, and s the state that is answered.
-- Assumes nothing.
use Rattle.std.proofs.Common.{◌≡◌, ℕ, zero, suc, ◌+◌, ◌%◌, ◌^◌, ◌<◌, ◌≤◌, Bool, true, false, cond, eqb, leb, List, ◌∷◌, ◌++◌, length, take, drop, replicate, sym, refl, ap, ◌∙◌, subst, add-one, arith, length-append, length-take-le, take_at, drop_at, eqb-true, le-leb, leb-true}
use borrow.Author.Tests.{lt-leb}
use Rattle.octets.specs.Numbers.{little}
use Rattle.octets.specs.Parts.{zeros, field}
use Rattle.octets.proofs.PartLaws.{zeros_length, field_length}
use Rattle.text.specs.Words.{ascii}
use Rattle.text.specs.Answers.{answer_line, answer_and_row}
use Rattle.text.specs.Pen.{Pen, Wrote}
use Rattle.text.proofs.PenLaws.{then, text_as}
use Rattle.refusals.specs.declared.Answer.{Answer}
use Rattle.refusals.specs.Rules.{answer, accepted, is_accepted, first}
use Rattle.octets.proofs.BoolLaws.{and_both}
use Rattle.ledger.specs.declared.Ledger.{Ledger}
use Rattle.ledger.specs.declared.Answered.{Answered}
use Rattle.ledger.specs.Ledgers.{open_refusals, opened_of, roll_after_open, close_refusals, closed_of, roll_after_close}
use Rattle.desk.specs.Drafts.{desk_answer, buffer_after}
use Rattle.ledgerbytes.specs.LedgerBytes.{ledger_of}
use Rattle.judge.specs.Judging.{table_after_case, judged_of}
use Rattle.replay.specs.declared.State.{State}
use Rattle.replay.specs.Tape.{Turn, turn_of, running_on, nothing, broken_turn, longest, can_lend, lends, open_on, open_turn, plant_on, plant_length, plant_turn, row_laid, rows_laid, laid_by, can_lay, table_turn, roll_turn, case_on, case_turn, desk_most, desk_line, behind, desk_on, can_draft, desk_turn, fresh_on, fresh_turn, block_on, block_turn, LentWithin, Plays}

-- the same turn by another name
pub plays_as : {u v : Turn} {t r : List ℕ} {x x' : Pen} {s : State} → u ≡ v → Plays u t r x x' s → Plays v t r x x' s
plays_as {t = t} {r = r} {x = x} {x' = x'} {s = s} e h = subst (λ (w : Turn). Plays w t r x x' s) e h

-- what lies within, of the same state by another name; and of a state with no bytes lent
pub within_as : {s z : State} {t r : List ℕ} → s ≡ z → LentWithin z t r → LentWithin s t r
within_as {t = t} {r = r} e h = subst (λ (w : State). LentWithin w t r) (sym e) h

pub nowhere : (on : Bool) (t r : List ℕ) → LentWithin (nothing on) t r
nowhere on t r = record { table = omega arith; roll = omega arith }

-- a turn by its state and its text
pub plays : {b : ℕ} {s z : State} {t r y : List ℕ} {x x' : Pen} → b ≤ longest → s ≡ z → LentWithin z t r → Wrote b y x x'
    → Plays (turn_of z t r y) t r x x' s
plays h k i w = record { state = k; table = refl; roll = refl; text = text_as h refl w; within = within_as k i }

-- what is no entry
pub plays_broken : {t r : List ℕ} {x x' : Pen} {s : State} → s ≡ nothing false → Wrote 47 (answer_line (ascii "tape") (answer 50 0)) x x' → Plays (broken_turn t r) t r x x' s
unfolding broken_turn
plays_broken {t} {r} h k = plays (omega arith) h (nowhere false t r) k

-- the bytes that an entry lends are there, and are still there once a call wrote as many over them
pub lent_table : {b : Bool} (w : Bool) (n m table roll : ℕ) → b ≡ can_lend w n m table roll → b ≡ true → n ≤ table
unfolding can_lend
lent_table w n m table roll h k = leb-true n table (and_both (leb n table) (leb m roll) (and_both w _ (sym h ∙ k)).1).0

pub lent_roll : {b : Bool} (w : Bool) (n m table roll : ℕ) → b ≡ can_lend w n m table roll → b ≡ true → m ≤ roll
unfolding can_lend
lent_roll w n m table roll h k = leb-true m roll (and_both (leb n table) (leb m roll) (and_both w _ (sym h ∙ k)).1).1

-- whether it lends them decides its turn. n and m are what was read of its body
pub lends_by : (whole : ℕ → ℕ → Bool) (u : ℕ → ℕ → Turn) (t r : List ℕ) {n m n' m' : ℕ} {b d : Bool} → n ≡ n' → m ≡ m'
    → b ≡ can_lend (whole n m) n m (length t) (length r) → b ≡ d → cond d (u n m) (broken_turn t r) ≡ lends whole u n' m' t r
unfolding lends
lends_by whole u t r hn hm hb h = rw (sym hn, sym hm, sym h ∙ hb)

still : (n : ℕ) (p t : List ℕ) → length p ≡ n → n ≤ length (p ++ drop n t)
still n p t h = omega (arith, length-append p (drop n t))

-- O
pub open_plays : (body t r p q : List ℕ) (x x' : Pen) (n m : ℕ) (b : Bool) (a : Answered) (s : State) → n ≡ little (field 0 4 body) → m ≡ little (field 4 4 body)
    → b ≡ can_lend (eqb (length body) 8) n m (length t) (length r) → b ≡ true → a.answer ≡ first (open_refusals (zeros (length (take m r))))
    → a.ledger ≡ opened_of (zeros (length (take m r))) → p ≡ zeros (length (take n t)) → q ≡ roll_after_open (zeros (length (take m r))) → length q ≡ length (take m r)
    → Wrote 47 (answer_line (ascii "open") a.answer) x x' → s ≡ running_on a.ledger n m
    → Plays (open_turn body t r) (p ++ drop n t) (q ++ drop m r) x x' s
unfolding open_turn open_on fresh_on
open_plays body t r p q x x' n m b a s hn hm hb h ha hl hp hq hk w hs =
    let i : length (take n t) ≡ n = length-take-le n t (lent_table _ n m _ _ hb h) in
    let j : length (take m r) ≡ m = length-take-le m r (lent_roll _ n m _ _ hb h) in
    let d : open_on n m t r ≡ open_turn body t r = lends_by _ _ t r hn hm hb h in
    let f : take m (zeros m ++ drop m r) ≡ zeros m = take_at (zeros m) (drop m r) m (zeros_length m) in
    let g : drop m (zeros m ++ drop m r) ≡ drop m r = drop_at (zeros m) (drop m r) m (zeros_length m) in
    let v : turn_of (running_on a.ledger n m) (p ++ drop n t) (q ++ drop m r) (answer_line (ascii "open") a.answer) ≡ open_on n m t r = rw (ha, hl, hp, hq, i, j, f, g) in
    plays_as (v ∙ d) (plays (omega arith) hs (record { table = still n p t (ap length hp ∙ zeros_length _ ∙ i); roll = still m q r (hk ∙ j) }) w)

-- P and K
pub plant_plays : (given : Bool) (body t r p q : List ℕ) (x x' : Pen) (n m : ℕ) (b : Bool) (a : Answer) (l : Ledger) (s : State) → n ≡ little (field 988 4 body)
    → m ≡ little (field 992 4 body) → b ≡ can_lend (eqb (length body) (plant_length given n m)) n m (length t) (length r) → b ≡ true
    → p ≡ field 996 (length (take n t)) body → q ≡ field (996 + n) (length (take m r)) body → a ≡ accepted → l ≡ ledger_of body
    → Wrote 48 (answer_line (ascii "plant") a) x x' → s ≡ running_on l n m
    → Plays (plant_turn given body t r) (p ++ drop n t) (q ++ drop m r) x x' s
unfolding plant_turn plant_on
plant_plays given body t r p q x x' n m b a l s hn hm hb h hp hq ha hl w hs =
    let i : length (take n t) ≡ n = length-take-le n t (lent_table _ n m _ _ hb h) in
    let j : length (take m r) ≡ m = length-take-le m r (lent_roll _ n m _ _ hb h) in
    let d : plant_on n m body t r ≡ plant_turn given body t r = lends_by _ _ t r hn hm hb h in
    let v : turn_of (running_on l n m) (p ++ drop n t) (q ++ drop m r) (answer_line (ascii "plant") a) ≡ plant_on n m body t r = rw (ha, hl, hp, hq, i, j) in
    plays_as (v ∙ d) (plays (omega arith) hs (record { table = still n p t (ap length hp ∙ field_length 996 _ body ∙ i); roll = still m q r (ap length hq ∙ field_length (996 + n) _ body ∙ j) }) w)

-- one row of several that are laid, and then the others
pub rows_turn : (m k at at' number number' step : ℕ) (tail b b' : List ℕ) → m ≡ k + 1 → at' ≡ at + 32 → number' ≡ (number + step) % 2 ^ 64 → b' ≡ row_laid at number tail b
    → rows_laid m at number step tail b ≡ rows_laid k at' number' step tail b'
unfolding rows_laid
rows_turn m k at at' number number' step tail b b' e ha hn hb = ap (λ (n : ℕ). rows_laid n at number step tail b) (e ∙ add-one k) ∙ rw (ha, hn, hb)

pub rows_same : (m m' at at' number step : ℕ) (tail b : List ℕ) → m ≡ m' → at ≡ at' → rows_laid m at number step tail b ≡ rows_laid m' at' number step tail b
rows_same m m' at at' number step tail b hm ha = rw (hm, ha)

pub rows_none : (m at number step : ℕ) (tail b : List ℕ) → m ≡ 0 → rows_laid m at number step tail b ≡ b
unfolding rows_laid
rows_none m at number step tail b e = rw e

-- T and A: rows laid in the lent part of one buffer
module _ (body t r p : List ℕ) (x x' : Pen) (z : State) (b : Bool) (a : Answer) (h : LentWithin z t r) (ha : a ≡ accepted) (w : Wrote 47 (answer_line (ascii "fill") a) x x') where
  pub table_plays : b ≡ can_lay body z.table → b ≡ true → p ≡ laid_by body (take z.table t) → length p ≡ length (take z.table t)
      → Plays (table_turn body t r z) (p ++ drop z.table t) r x x' z
  unfolding table_turn
  table_plays hb taken hp hk =
      let v : turn_of z (p ++ drop z.table t) r (answer_line (ascii "fill") a) ≡ table_turn body t r z = rw (ha, hp, sym hb ∙ taken) in
      plays_as v (plays (omega arith) refl (record { table = still z.table p t (hk ∙ length-take-le z.table t h.table); roll = h.roll }) w)

  pub roll_laid_plays : b ≡ can_lay body z.roll → b ≡ true → p ≡ laid_by body (take z.roll r) → length p ≡ length (take z.roll r)
      → Plays (roll_turn body t r z) t (p ++ drop z.roll r) x x' z
  unfolding roll_turn
  roll_laid_plays hb taken hp hk =
      let v : turn_of z t (p ++ drop z.roll r) (answer_line (ascii "fill") a) ≡ roll_turn body t r z = rw (ha, hp, sym hb ∙ taken) in
      plays_as v (plays (omega arith) refl (record { table = h.table; roll = still z.roll p r (hk ∙ length-take-le z.roll r h.roll) }) w)

-- rows that can be laid have a whole body
pub can_lay_whole : {b : Bool} (body : List ℕ) (lent : ℕ) → b ≡ can_lay body lent → b ≡ true → length body ≡ 48
unfolding can_lay
can_lay_whole body lent hb taken = eqb-true (length body) 48 (and_both (eqb (length body) 48) _ (sym hb ∙ taken)).0

-- rows that cannot be laid
module _ (body t r : List ℕ) (z : State) {b : Bool} where
  pub table_broken : b ≡ can_lay body z.table → b ≡ false → broken_turn t r ≡ table_turn body t r z
  unfolding table_turn
  table_broken hb left = rw (sym hb ∙ left)

  pub roll_broken : b ≡ can_lay body z.roll → b ≡ false → broken_turn t r ≡ roll_turn body t r z
  unfolding roll_turn
  roll_broken hb left = rw (sym hb ∙ left)

-- C and D: a case was judged, and its line stands behind the text y
pub judged_plays : {b : ℕ} (y body t r t' : List ℕ) (x x' : Pen) (z : State) (a : Answered) (s : State) → b ≤ longest → LentWithin z t r
    → a ≡ judged_of body (take z.table t) (take z.roll r) z.ledger
    → t' ≡ table_after_case body (take z.table t) (take z.roll r) z.ledger ++ drop z.table t → length t' ≡ length t
    → Wrote b (y ++ answer_and_row (ascii "case") a.answer) x x' → s ≡ running_on a.ledger z.table z.roll
    → Plays (behind y (case_turn body t r z)) t' r x x' s
unfolding case_turn case_on judged_of
judged_plays y body t r t' x x' z a s hb h ha ht hk w hs =
    let v : turn_of (running_on a.ledger z.table z.roll) t' r (y ++ answer_and_row (ascii "case") a.answer) ≡ behind y (case_turn body t r z) = rw (ha, ht) in
    plays_as v (plays hb hs (record { table = omega (arith, h.table); roll = h.roll }) w)

-- the desk's line alone, and with what was judged behind it
module _ (d b b' t r : List ℕ) (z : State) (a : Answer) (ha : a ≡ desk_answer d (length b)) (hb : b' ≡ buffer_after d b) where
  pub draft_refused : is_accepted a ≡ false → turn_of z t r (desk_line a b') ≡ desk_on d b t r z
  unfolding desk_on
  draft_refused h = rw (hb, sym ha, h)

  pub draft_plays : {t' : List ℕ} {x x₁ x' : Pen} {j : Answered} {s : State} → is_accepted a ≡ true → Wrote 112 (desk_line a b') x x₁ → LentWithin z t r
      → j ≡ judged_of b' (take z.table t) (take z.roll r) z.ledger
      → t' ≡ table_after_case b' (take z.table t) (take z.roll r) z.ledger ++ drop z.table t → length t' ≡ length t
      → Wrote 72 (answer_and_row (ascii "case") j.answer) x₁ x' → s ≡ running_on j.ledger z.table z.roll
      → Plays (desk_on d b t r z) t' r x x' s
  unfolding desk_on
  draft_plays {t' = t'} {x = x} {x' = x'} {j = j} {s = s} ok line h hj ht hk w hs =
      plays_as (rw (hb, sym ha, ok)) (judged_plays (desk_line a b') b' t r t' x x' z j s (omega arith) h hj ht hk (then line w) hs)

-- some of several equal bytes
pub taken_of : (n m x : ℕ) → n ≤ m → take n (replicate m x) ≡ replicate n x
taken_of zero m x h = refl
taken_of (suc n) zero x h = absurd (omega arith)
taken_of (suc n) (suc m) x h = ap (λ (l : List ℕ). x ∷ l) (taken_of n m x (omega arith))

-- D: a body too short, a buffer too long, and neither
module _ (body t r : List ℕ) (z : State) where
  pub desk_short : length body < 4 → broken_turn t r ≡ desk_turn body t r z
  unfolding desk_turn can_draft
  desk_short h = rw (lt-leb 4 (length body) h)

  pub desk_wide : (n : ℕ) → n ≡ little (field 0 4 body) → 4 ≤ length body → desk_most < n → broken_turn t r ≡ desk_turn body t r z
  unfolding desk_turn can_draft
  desk_wide n e h k = rw (le-leb 4 (length body) h, sym e, lt-leb n desk_most k)

  pub desk_drafts : (n : ℕ) → n ≡ little (field 0 4 body) → 4 ≤ length body → n ≤ desk_most → desk_on (drop 4 body) (replicate n 0xa5) t r z ≡ desk_turn body t r z
  unfolding desk_turn can_draft
  desk_drafts n e h k = rw (le-leb 4 (length body) h, sym e, le-leb n desk_most k)

-- F and B: a call that changes the roll alone. It left q in the lent part, and u is the turn that it makes
roll_plays : {b : ℕ} (word t r q : List ℕ) (x x' : Pen) (z : State) (a : Answered) (s : State) (u : Turn) → b ≤ longest → LentWithin z t r
    → length q ≡ length (take z.roll r) → Wrote b (answer_line word a.answer) x x' → s ≡ running_on a.ledger z.table z.roll
    → turn_of (running_on a.ledger z.table z.roll) t (q ++ drop z.roll r) (answer_line word a.answer) ≡ u
    → Plays u t (q ++ drop z.roll r) x x' s
roll_plays word t r q x x' z a s u hb h hk w hs v =
    plays_as v (plays hb hs (record { table = h.table; roll = still z.roll q r (hk ∙ length-take-le z.roll r h.roll) }) w)

pub fresh_plays : (t r q : List ℕ) (x x' : Pen) (z : State) (a : Answered) (s : State) → LentWithin z t r
    → a.answer ≡ first (open_refusals (take z.roll r)) → a.ledger ≡ opened_of (take z.roll r) → q ≡ roll_after_open (take z.roll r)
    → length q ≡ length (take z.roll r) → Wrote 47 (answer_line (ascii "open") a.answer) x x'
    → s ≡ running_on a.ledger z.table z.roll → Plays (fresh_turn t r z) t (q ++ drop z.roll r) x x' s
unfolding fresh_turn fresh_on
fresh_plays t r q x x' z a s h ha hl hq hk w hs = roll_plays (ascii "open") t r q x x' z a s (fresh_turn t r z) (omega arith) h hk w hs (rw (ha, hl, hq))

pub block_plays : (t r q : List ℕ) (x x' : Pen) (z : State) (a : Answered) (s : State) → LentWithin z t r
    → a.answer ≡ first (close_refusals (take z.table t) (take z.roll r) z.ledger) → a.ledger ≡ closed_of (take z.table t) (take z.roll r) z.ledger
    → q ≡ roll_after_close (take z.table t) (take z.roll r) z.ledger → length q ≡ length (take z.roll r)
    → Wrote 48 (answer_line (ascii "block") a.answer) x x' → s ≡ running_on a.ledger z.table z.roll
    → Plays (block_turn t r z) t (q ++ drop z.roll r) x x' s
unfolding block_turn block_on
block_plays t r q x x' z a s h ha hl hq hk w hs = roll_plays (ascii "block") t r q x x' z a s (block_turn t r z) (omega arith) h hk w hs (rw (ha, hl, hq))
