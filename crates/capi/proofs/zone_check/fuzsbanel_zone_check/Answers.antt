use Rattle.std.proofs.Common.{length, rules, Ok, Some, ◌≡◌}
use Rattle.std.specs.String.{string_bytes}
use Rattle.tasks.specs.ZoneCheck.{told_value, zone_checked}
use Rattle.capi.proofs.CheckLemmas.{is_told}
use Rattle.capi.specs.ZoneCheck.{IsChecked, fronted}
use Rattle.capi.proofs.zone_check.fuzsbanel_zone_check.Goals as goal

pub returns-in-Ok-Some : goal.returns-in-Ok-Some
returns-in-Ok-Some c =
    let asked : zone_checked c.args.origin.now c.args.text.now c.args.included.now c.args.included_bytes.now
    ≡ Ok (Some (told_value c.in-Ok-Some.told)) = search rules in
    let name : c.put_front.new.out ≡ fronted (string_bytes c.in-Ok-Some.told.name) c.args.name.now = search rules in
    let words : c.put_front-in-Ok-Some.new.out ≡ fronted (string_bytes c.in-Ok-Some.told.words) c.args.words.now =
    search rules in
    let names : c.len.result ≡ length (string_bytes c.in-Ok-Some.told.name) = search rules in
    let lens : c.len-in-Ok-Some.result ≡ length (string_bytes c.in-Ok-Some.told.words) = search rules in
    let checked : IsChecked
    (zone_checked c.args.origin.now c.args.text.now c.args.included.now c.args.included_bytes.now)
    c.args.name.now c.put_front.new.out c.args.words.now c.put_front-in-Ok-Some.new.out
    (record {
      line = c.in-Ok-Some.told.line;
      column = c.in-Ok-Some.told.column;
      name_len = c.len.result;
      words_len = c.len-in-Ok-Some.result;
    }) c.refusal_code.result = is_told c.in-Ok-Some.told
    (zone_checked c.args.origin.now c.args.text.now c.args.included.now c.args.included_bytes.now)
    c.args.name.now c.put_front.new.out c.args.words.now c.put_front-in-Ok-Some.new.out
    c.len.result c.len-in-Ok-Some.result c.refusal_code.result asked name words names lens c.refusal_code.ensures in
    search rules
