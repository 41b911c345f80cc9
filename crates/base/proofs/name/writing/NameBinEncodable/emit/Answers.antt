use Rattle.base.proofs.name.writing.NameBinEncodable.emit.Goals as goal

pub returns-clause-fits : goal.returns-clause-fits
returns-clause-fits c = c.in_ok-append_to.ensures.fits

pub returns-clause-exact : goal.returns-clause-exact
returns-clause-exact c = c.in_ok-append_to.ensures.exact
