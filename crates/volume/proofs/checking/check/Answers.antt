use Rattle.std.proofs.Common.{ℕ, Err, refl, sym, ap, subst, rules}
use Rattle.disk.specs.Moments.{History}
use Rattle.journal.specs.Log.{Log}
use Rattle.journal.specs.Viewed.{HasViewed}
use Rattle.journal.specs.Views.{view_of, view_failures, name_of}
use Rattle.layout.specs.Versions.{log_by}
use Rattle.model_tree.specs.Seats.SeatViews.{seats_view}
use Rattle.volume.specs.Checks.{FailsCheck}
use Rattle.volume.proofs.CheckLaws.{check_refused, look_fails, gate_fails, no_form_there, nodes_fail, has_checked, view_holds, viewed_there}
use Rattle.volume.proofs.checking.check.Goals as goal

pub returns-in-Err : goal.returns-in-Err
returns-in-Err g c =
    let D = g.D.Device in
    check_refused D.keeps_word D.size D.failed D.history _ _ c.in-Err.fault
    (λ k. look_fails (D.size c.args.device.now) (D.history c.args.device.now) c.in-Err.fault (c.in-Err.ensures.seen k))
    (λ is. c.in-Err.ensures.never_worn (ap (λ x. Err x) is))
    (λ is. c.in-Err.ensures.cause (ap (λ x. Err x) is))
    (λ other. c.in-Err.ensures.none (λ is. other (cc)))
    c.read_superblock.ensures.history c.read_superblock.ensures.later
    c.read_superblock.ensures.same_size

pub returns-in-Err-view_in : goal.returns-in-Err-view_in
returns-in-Err-view_in g c =
    let D = g.D.Device in
    let size : ℕ = D.size c.args.device.now in
    let old : History = D.history c.args.device.now in
    let found = c.in-Ok.found in
    check_refused D.keeps_word D.size D.failed D.history _ _ c.into.result
    (λ k. subst (FailsCheck size old) (sym c.into.ensures)
    (gate_fails size old found c.in-Ok.ensures.volume (c.in-Ok.ensures.seen k).1 c.in-Err-view_in.refused.fault (c.in-Ok.ensures.seen k).0
    (λ is. no_form_there (log_by found.version found.sectors) c.log_area.result old (D.history c.read_superblock.new.device) c.log_area.ensures c.read_superblock.ensures.history
    (c.in-Err-view_in.ensures.damaged k is))))
    (λ is. search rules)
    (λ is. search rules)
    (λ other. search rules)
    (search rules) (search rules) (search rules)

pub read_nodes-requires-clause-base : goal.read_nodes-requires-clause-base
read_nodes-requires-clause-base g c = λ k.
    let D = g.D.Device in
    let old : History = D.history c.args.device.now in
    let found = c.in-Ok.found in
    let log : Log = view_of c.in-Ok-view_in.view in
    view_holds (D.size c.args.device.now) old found c.in-Ok.ensures.volume (c.in-Ok.ensures.seen k).1 log
    (viewed_there (log_by found.version found.sectors) c.log_area.result old (D.history c.read_superblock.new.device) log c.log_area.ensures c.read_superblock.ensures.history (c.in-Ok-view_in.ensures.viewed k))

pub returns-in-Err-read_nodes : goal.returns-in-Err-read_nodes
unfolding view_of view_failures name_of
returns-in-Err-read_nodes g c =
    let D = g.D.Device in
    let size : ℕ = D.size c.args.device.now in
    let old : History = D.history c.args.device.now in
    let found = c.in-Ok.found in
    let log : Log = view_of c.in-Ok-view_in.view in
    let viewed : D.keeps_word → HasViewed (log_by found.version found.sectors) old log = λ k.
    viewed_there (log_by found.version found.sectors) c.log_area.result old (D.history c.read_superblock.new.device) log c.log_area.ensures c.read_superblock.ensures.history (c.in-Ok-view_in.ensures.viewed k) in
    check_refused D.keeps_word D.size D.failed D.history _ _ c.in-Err-read_nodes.fault
    (λ k. nodes_fail size old found c.in-Ok.ensures.volume (c.in-Ok.ensures.seen k).1 log.base (c.in-Ok.ensures.seen k).0 (viewed k).base c.in-Err-read_nodes.fault
    (λ is. c.in-Err-read_nodes.ensures.damaged k (ap (λ x. Err x) is)) c.in-Err-read_nodes.ensures.only)
    (λ is. search rules)
    (λ is. let failed = (c.in-Err-read_nodes.ensures.health.fails (ap (λ x. Err x) is)).cause in search (rules, failed))
    (λ other. search rules)
    (search rules) (search rules) (search rules)

pub returns : goal.returns
unfolding view_of view_failures name_of
returns g c =
    let D = g.D.Device in
    let size : ℕ = D.size c.args.device.now in
    let old : History = D.history c.args.device.now in
    let found = c.in-Ok.found in
    let loaded = c.in-Ok-read_nodes.loaded in
    let log : Log = view_of c.in-Ok-view_in.view in
    let viewed : D.keeps_word → HasViewed (log_by found.version found.sectors) old log = λ k.
    viewed_there (log_by found.version found.sectors) c.log_area.result old (D.history c.read_superblock.new.device) log c.log_area.ensures c.read_superblock.ensures.history (c.in-Ok-view_in.ensures.viewed k) in
    record {
      ok = λ k.
          has_checked size old found c.in-Ok.ensures.volume (c.in-Ok.ensures.seen k).1 log.base (c.in-Ok.ensures.seen k).0 (viewed k).base D.keeps_word k
          loaded.mark loaded.table (seats_view loaded.seats) loaded.places c.in-Ok-read_nodes.ensures.loaded _ c.number.ensures refl refl refl;
      err = λ k. tt;
      never_worn = λ is. let never : ⊥ = cc in never;
      cause = λ is. let never : ⊥ = cc in absurd never;
      none = λ other. search rules;
      untouched = search rules;
      later = search rules;
      same_size = search rules;
    }
