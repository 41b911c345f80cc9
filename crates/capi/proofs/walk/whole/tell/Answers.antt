use Rattle.std.proofs.Common.{ap, arith, length, sym, take, ◌++◌, ◌≤◌}
use Rattle.capi.proofs.WalkLemmas.{bytes_put, item_put, length-left, more_names, name_has_room, names_length, no_items}
use Rattle.capi.proofs.WalkLemmas.{no_names}
use Rattle.capi.specs.WalkWhole.{names_of, octets_of}
use Rattle.capi.proofs.walk.whole.tell.Goals as goal

pub loop-i-init : goal.loop-i-init
loop-i-init c = record {
  at_is = sym (ap length no_names);
  items_are = ap (λ front. front ++ c.args.items.now) (sym (no_items 0));
  names_are = ap (λ front. front ++ c.args.names.now) (sym no_names);
}

pub put_name-name_len-requires : goal.put_name-name_len-requires
put_name-name_len-requires c =
    let room = name_has_room c.args.stops.now c.loop-i.i c.index-stops-i.result c.index-stops-i.is c.loop-i-test.true in
    omega (
      arith,
      room,
      length-left c.loop-i.names c.loop-i.at,
      c.loop-i.invariant.at_is,
      c.requires.names_room,
      c.loop-i.auto.names,
    )

pub loop-i-preserved : goal.loop-i-preserved
loop-i-preserved c =
    let stops = c.args.stops.now in
    let i = c.loop-i.i in
    let at = c.loop-i.at in
    let stop = c.index-stops-i.result in
    let is = c.index-stops-i.is in
    let below = c.loop-i-test.true in
    let put = c.put_name-name_len.ensures in
    let before = c.loop-i.invariant in
    let room = name_has_room stops i stop is below in
    let inside : at ≤ length c.loop-i.names =
    omega (arith, room, before.at_is, c.requires.names_room, c.loop-i.auto.names) in
    let more = names_length stops i stop is below in
    record {
      at_is = omega (arith, more, before.at_is, put.len, c.from-at.ensures);
      items_are = rw (put.len, c.section_number.ensures, before.items_are)
          (item_put stops i stop is below c.args.items.now at (omega (arith, below, c.requires.room)) before.at_is);
      names_are = rw (put.put, c.from-at.ensures, put.len, more_names stops i stop is below)
          (bytes_put (names_of (take i stops)) (octets_of stop.name) c.args.names.now c.loop-i.names at
          (length (octets_of stop.name)) before.at_is before.names_are inside);
    }
