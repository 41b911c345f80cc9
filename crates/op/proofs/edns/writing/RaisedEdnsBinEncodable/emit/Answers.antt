use Rattle.op.proofs.edns.writing.RaisedEdnsBinEncodable.emit.Goals as goal

pub returns-clause-fits : goal.returns-clause-fits
returns-clause-fits c = c.emit_raised.ensures.fits

pub returns-clause-exact : goal.returns-clause-exact
returns-clause-exact c = c.emit_raised.ensures.exact
