use Rattle.std.proofs.Common.{◌∙◌}
use Rattle.packing.specs.Decimals.{digits_of}
use Rattle.packing.proofs.DecimalLaws.{well_formed, first_room, second_room}
use Rattle.packing.proofs.digits_of.Goals as goal

pub value_from-v-requires : goal.value_from-v-requires
value_from-v-requires c =
    let h = well_formed c.args.u.now c.requires in
    record {
      s_value = rw c.up_to.ensures h.before;
      s_bound = rw c.up_to.ensures (first_room _ h);
    }

pub value_from-requires : goal.value_from-requires
value_from-requires c =
    let h = well_formed c.args.u.now c.requires in
    record {
      s_value = rw c.behind.ensures h.after;
      s_bound = rw (c.behind.ensures, c.value_from-v.ensures, c.up_to.ensures) (second_room _ h);
    }

pub returns : goal.returns
unfolding digits_of
returns c = c.value_from.ensures ∙ rw (c.behind.ensures, c.value_from-v.ensures, c.up_to.ensures)
