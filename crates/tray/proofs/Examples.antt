-- What is printed of a tray, byte by byte: a bag's lines are the scanner's, and what is no whole bag has one line.
-- Assumes nothing.
use Prim.Native.Nat.{ℕ}
use mathlib.Core.Path.{◌≡◌, refl}
use mathlib.Core.Bool.{false}
use mathlib.Core.List.{List, []}
use lib.ListN.{take}
use Rattle.std.specs.Prelude.{Some, None, Ok, Err}
use Rattle.text.specs.Words.{ascii, name_line}
use Rattle.text.specs.Decimal.{decimal, decimal_within}
use Rattle.text.specs.Answers.{answer_words, answer_line}
use Rattle.scanning.specs.FreshLedger.{fresh_scan}
use Rattle.scanning.specs.Lines.{lines_of}
use Rattle.lines.specs.declared.Broken.{Broken}
use Rattle.tray.specs.declared.Item.TheVariants.{Bag, Name}
use Rattle.tray.specs.Tray.{lines_for}

pub bag : (n : ℕ) (b : List ℕ) → lines_for (Ok (Some (Bag n))) b ≡ lines_of false (fresh_scan (take n b))
unfolding lines_for
bag n b = refl

pub name : (n : ℕ) (b : List ℕ) → lines_for (Ok (Some (Name n))) b ≡ name_line (take n b)
unfolding lines_for
name n b = refl

pub end : (b : List ℕ) → lines_for (Ok None) b ≡ []
unfolding lines_for
end b = refl

pub broken : (e : Broken) (b : List ℕ) → lines_for (Err e) b ≡ ascii "tray 50 0\n"
unfolding lines_for answer_line answer_words decimal decimal_within
broken e b = refl
