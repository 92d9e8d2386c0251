-- The whole is a number exactly if what is left are digits that say one behind v, which is what the digits so far say; a byte that is no
-- digit says no, and so does a digit that makes it too large, since those behind it do not make it smaller.
use Rattle.std.proofs.Common.{◌≡◌, ◌<◌, ◌≤◌, length, drop}
use Rattle.form.specs.Digits.{every, is_digit, number_from}
use Rattle.form.proofs.digits.number_of.Given as goal

abbrev pub invariant-loop-x : goal.invariant-loop-x
invariant-loop-x l = record {
  some : 0 < length l.digits;
  most : l.v ≤ l.most;
  digits : every is_digit l.digits ≡ every is_digit (drop l.x-index l.digits);
  value : number_from 0 l.digits ≡ number_from l.v (drop l.x-index l.digits);
}
