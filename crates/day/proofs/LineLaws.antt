-- The pieces that the calls write are the lines of the definitions; and a day, one entry more at a time.
-- Assumes nothing.
use Prim.Native.Nat.{ℕ, ◌+◌, ◌*◌, ◌<◌}
use mathlib.Core.Path.{◌≡◌, refl, ap, ap₂, ◌∙◌}
use mathlib.Core.Bool.{Bool, true, false}
use mathlib.Core.List.{List, [], ◌∷◌, ◌++◌, append_assoc, flat_map}
use native.Mathlib.Numerals.{add-one}
use native.Mathlib.Omega.{arith}
use lib.ListN.{length, get_or, drop}
use lib.Seq.{drop-cons, drop-length}
use Rattle.text.specs.Words.{ascii}
use Rattle.text.specs.Decimal.{decimal}
use Rattle.text.specs.Pen.{Pen, Wrote}
use Rattle.text.proofs.PenLaws.{start, then, text_as}
use Rattle.books.specs.declared.DayRow.{DayRow}
use Rattle.books.specs.declared.Tally.{Tally}
use Rattle.books.specs.DayList.{is_on, with_day_row}
use Rattle.books.specs.Tally.{Tallied, tally_of}
use Rattle.day.specs.declared.Entry.{Entry}
use Rattle.day.specs.Lines.{counted, three_line, day_row_line, yes_or_no, enter_line, tally_line, count_line, is_pass, day_lines, entries, both_lines}

pub three_as : (word : List ℕ) (a b c : ℕ) {x y z : ℕ} → x ≡ a → y ≡ b → z ≡ c
    → word ++ ((ascii " " ++ decimal x) ++ ((ascii " " ++ decimal y) ++ ((ascii " " ++ decimal z) ++ ascii "\n"))) ≡ three_line word a b c
unfolding three_line
three_as word a b c h k l = rw (h, k, l) (simp append_assoc)

pub row_as : (r : DayRow) {s a p : ℕ} → s ≡ r.seal → a ≡ r.answer → p ≡ r.place → three_line (ascii "row") s a p ≡ day_row_line r
unfolding day_row_line
row_as r h k l = rw (h, k, l)

pub tally_as : (t : Tally) {s p r : ℕ} → s ≡ t.seen → p ≡ t.passed → r ≡ t.refused → three_line (ascii "tally") s p r ≡ tally_line t
unfolding tally_line
tally_as t h k l = rw (h, k, l)

pub enter_as : (at : ℕ) (word : List ℕ) → ascii "enter" ++ ((ascii " " ++ decimal at) ++ (word ++ ascii "\n")) ≡ ascii "enter" ++ ascii " " ++ decimal at ++ word ++ ascii "\n"
enter_as at word = simp append_assoc

pub count_as : (c : Tallied) → ascii "count" ++ (yes_or_no c.ok ++ (ascii " " ++ tally_line c.tally)) ≡ count_line c
unfolding count_line
count_as c = simp append_assoc

-- A DAY SO FAR: what was written for the first i of the entries es, and that with the lines of the others it is the whole
pub record SoFar (whole : List ℕ) (es : List Entry) (i : ℕ) (rows : List DayRow) (t : Tally) (p q : Pen) : Type 0 where
  pub text : List ℕ
  pub wrote : Wrote (110 * i) text p q
  pub rest : text ++ day_lines (drop i es) rows t ≡ whole

pub none_yet : {whole : List ℕ} {es : List Entry} {rows : List DayRow} {t : Tally} (p : Pen) → day_lines es rows t ≡ whole → SoFar whole es 0 rows t p p
none_yet p h = record { text = []; wrote = start p; rest = h }

pub one_entry : {whole : List ℕ} {es : List Entry} {i : ℕ} {rows rows' : List DayRow} {t : Tally} {p q r u : Pen} (e d : Entry) (ok : Bool) (c : Tallied)
    → i < length es → e ≡ get_or es i d → ok ≡ is_on e.at.0 rows → rows' ≡ with_day_row e.at.0 e.row rows → c ≡ tally_of t (is_pass e)
    → SoFar whole es i rows t p q → Wrote 31 (enter_line e.at.0 ok) q r → Wrote 79 (count_line c) r u → SoFar whole es (i + 1) rows' c.tally p u
unfolding day_lines
one_entry {es = es} {i = i} {rows = rows} {rows' = rows'} {t = t} e d ok c h k ho hr hc s f g =
    let a = enter_line e.at.0 ok ++ count_line c in
    let z = day_lines (drop (i + 1) es) rows' c.tally in
    let next : drop i es ≡ e ∷ drop (i + 1) es = rw (add-one, k) (drop-cons es i d h) in
    let step : a ++ z ≡ day_lines (drop i es) rows t = rw (next, ho, hr, hc) in
    record {
      text = s.text ++ a;
      wrote = text_as (omega arith) refl (then s.wrote (then f g));
      rest = append_assoc s.text a z ∙ ap (λ (l : List ℕ). s.text ++ l) step ∙ s.rest;
    }

pub no_more : {whole : List ℕ} {es : List Entry} {i : ℕ} {rows : List DayRow} {t : Tally} {p q r u : Pen} → i ≡ length es → SoFar whole es i rows t p q
    → Wrote 268 (flat_map day_row_line rows) q r → Wrote 69 (tally_line t) r u → Wrote (110 * i + (268 + 69)) whole p u
unfolding day_lines
no_more {es = es} {i = i} {rows = rows} {t = t} h s f g =
    let d : drop i es ≡ [] = rw h (drop-length es) in
    text_as (omega arith) (rw d at s.rest) (then s.wrote (then f g))

pub entries_seven : length entries ≡ 7
unfolding entries
entries_seven = refl

-- what counting in place answers and leaves, as one
pub both_parts : {ok : Bool} {t : Tally} (c : Tallied) → (ok ≡ c.ok) × (t ≡ c.tally) → counted ok t ≡ c
both_parts c e = ap₂ counted e.0 e.1

-- a pass and then a refusal
pub both_as : (t : Tally) {c d : Tallied} → c ≡ tally_of t true → d ≡ tally_of c.tally false → count_line c ++ count_line d ≡ both_lines t
unfolding both_lines
both_as t h k = rw (k, h)
