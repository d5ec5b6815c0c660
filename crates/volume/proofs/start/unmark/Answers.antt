use Rattle.std.proofs.Common.{◌≡◌, ◌∙◌, true, false, refl, subst, sym, true≢false, arith}
use Rattle.disk.specs.Moments.{AddsOnly}
use Rattle.disk.proofs.MomentLemmas.{AddsOnly-same}
use Rattle.journal.specs.Journal.{log_of}
use Rattle.journal.specs.Log.{Log}
use Rattle.layout.specs.Stands.{Kept, number_of_version, served}
use Rattle.layout.specs.declared.versions.VersionNumber.{VersionNumber}
use Rattle.layout.specs.declared.versions.VersionNumber.TheVariants.{Two}
use Rattle.volume.specs.Mounts.{IsAtRest}
use Rattle.volume.specs.Stands.{StandsForIn}
use Rattle.volume.specs.Starts.{Clears, is_marked}
use Rattle.volume.proofs.StartLaws.{bare_now, bare_second, cleared_few, ends_at_rest, is_bare_kept, marked_second, may_migrate, so_moves, still_for, two_early, unmarked_cleared}
use Rattle.volume.proofs.start.unmark.Goals as goal

pub clear-requires-clause-rests : goal.clear-requires-clause-rests
clear-requires-clause-rests g c =
    may_migrate (served c.args.version) (log_of c.args.journal.now) (two_early (served c.args.version) (marked_second c.args.version c.args.mark (sym c.is_marked.ensures ∙ c.if-not-is_marked.false))) c.requires.rests

pub returns-then-not-is_marked-clause-clears : goal.returns-then-not-is_marked-clause-clears
returns-then-not-is_marked-clause-clears g c =
    let old : Log = log_of c.args.journal.now in
    let version = served c.args.version in
    let unmarked : is_marked c.args.version c.args.mark ≡ false = sym c.is_marked.ensures ∙ c.if-not-is_marked.true in
    record {
      size = refl;
      rests = c.requires.rests;
      untouched = λ none. refl;
      settled = λ k settled. settled;
      brief = λ k. omega arith;
      moments = λ k mark nodes run kept some stands. AddsOnly-same (StandsForIn (number_of_version version) old.size nodes run kept) old.history;
      stands = λ k mark nodes run kept some stands. unmarked_cleared version mark nodes run kept old (some ∙ unmarked) stands;
    }

pub returns-clause-clears : goal.returns-clause-clears
returns-clause-clears g c =
    let old : Log = log_of c.args.journal.now in
    let new : Log = log_of c.clear.new.journal in
    let marked : is_marked c.args.version c.args.mark ≡ true = sym c.is_marked.ensures ∙ c.if-not-is_marked.false in
    let two : served c.args.version ≡ Two = marked_second c.args.version c.args.mark marked in
    let rests : IsAtRest Two old = subst (λ (v : VersionNumber). IsAtRest v old) two c.requires.rests in
    subst (λ (v : VersionNumber). Clears g.D.Device.keeps_word v (is_marked c.args.version c.args.mark) old new c.clear.result) (sym two) (record {
      size = c.clear.ensures.place.size;
      rests = ends_at_rest Two old new c.clear.result rests.placed c.clear.ensures.place c.clear.ensures.rests;
      untouched = λ none. absurd (true≢false (sym marked ∙ none));
      settled = λ k settled. c.clear.ensures.settled k;
      brief = λ k. cleared_few Two old new rests.placed (c.clear.ensures.moments k).brief;
      moments = λ k mark nodes run kept some stands.
          subst (λ (of : Kept). AddsOnly (StandsForIn 2 old.size nodes run of) old.history new.history) (is_bare_kept mark old.size nodes run old.base kept (some ∙ marked) stands)
          (still_for 2 old.size nodes run kept.tree old new (omega arith) refl rests.placed
          ((c.clear.ensures.moments k).moments mark nodes run kept.tree stands.marked (bare_second mark old.size nodes run old.base kept (some ∙ marked) stands)));
      stands = λ k. so_moves c.clear.result _ _
          (λ cleared mark nodes run kept some stands.
          let it = cleared mark nodes run kept.tree stands.marked (bare_second mark old.size nodes run old.base kept (some ∙ marked) stands) in
          record { stands = bare_now mark old.size nodes run old.base kept (some ∙ marked) stands new.base it.stands; cached_nodes = it.cached_nodes })
          (c.clear.ensures.ok k);
    })
