use Rattle.std.proofs.Common.{arith}
use Rattle.text.specs.Pen.{written}
use Rattle.form.specs.Digits.{is_hex_digit}
use Rattle.form.proofs.DigitLaws.{every_at, hex_worth, bytes_in_length, pair_hex, pair_put, no_pair}
use Rattle.form.proofs.digits.put_bytes.Goals as goal

pub byte_of-requires : goal.byte_of-requires
byte_of-requires c =
    let v = c.loop-rest.invariant.hex in
    let s = c.loop-rest.rest.now in
    (hex_worth _ (every_at is_hex_digit s 0 v (omega arith)), hex_worth _ (every_at is_hex_digit s 1 v (omega arith)))

pub loop-rest-preserved : goal.loop-rest-preserved
loop-rest-preserved c =
    let s = c.loop-rest.rest.now in
    let v = c.loop-rest.invariant in record {
      hex = pair_hex is_hex_digit s c.in-len2-up.len_at_least v.hex;
      left = rw (pair_put s _ _ _ c.in-len2-up.len_at_least c.byte_of.ensures c.put.ensures.made) v.left;
    }

pub returns : goal.returns
unfolding written
returns c =
    let d = c.args.digits.now in
    record { made = rw (no_pair c.loop-rest.rest.now (omega arith)) at c.loop-rest.invariant.left; short = omega (arith, bytes_in_length d) }
