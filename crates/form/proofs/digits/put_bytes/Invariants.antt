-- What is left to put leads to the same page as all of it from the start.
use Rattle.std.proofs.Common.{◌≡◌, true, length}
use Rattle.text.specs.Pen.{written}
use Rattle.form.specs.Digits.{every, is_hex_digit, bytes_in}
use Rattle.form.proofs.digits.put_bytes.Given as goal

abbrev pub invariant-loop-rest : goal.invariant-loop-rest
invariant-loop-rest l = record {
  hex : every is_hex_digit l.rest ≡ true;
  left : written (bytes_in l.rest) l.page ≡ written (bytes_in l.digits) l.initial.page;
}

abbrev pub decreases-loop-rest : goal.decreases-loop-rest
decreases-loop-rest l = length l.rest
