use Rattle.fs.proofs.fs.Fs.format.Goals as goal

pub returns : goal.returns
returns g c = record {
  moments = c.format.ensures.moments;
  ok = c.format.ensures.ok;
  size = c.format.ensures.size;
  untouched = c.format.ensures.untouched;
  cause = c.format.ensures.cause;
  none = c.format.ensures.none;
  later = c.format.ensures.later;
  same_size = c.format.ensures.same_size;
}
