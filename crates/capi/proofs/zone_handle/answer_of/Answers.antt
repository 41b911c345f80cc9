use Rattle.capi.proofs.zone_handle.answer_of.Goals as goal

pub respond-requires : goal.respond-requires
respond-requires c = λ k s found. (c.args.zone.now.kept k s found).own_key
