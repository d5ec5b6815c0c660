use Rattle.std.proofs.Common.{◌++◌, ◌∙◌, ℕ, List, take, drop, sym, ap}
use Rattle.journal.specs.Journal.{log_of}
use Rattle.journal.specs.Log.{Log, contents}
use Rattle.volume.specs.Views.{volume_state, volume_failures}
use Rattle.layout.specs.Versions.{data_end_by}
use Rattle.volume.proofs.ChangeLaws.{ends_on_device}
use Rattle.volume.proofs.ReadLaws.{blocks_within, file_bytes, place_there, some_at}
use Rattle.volume.proofs.KeepLaws.{left}
use Rattle.volume.proofs.volume.Volume.bytes.Goals as goal

pub returns-then-is_down-clause-volume : goal.returns-then-is_down-clause-volume
unfolding volume_state volume_failures
returns-then-is_down-clause-volume g c = left g.D.Device.keeps_word _ (volume_state c.args.self.now) (volume_failures c.args.self.now)

pub unwrap-place-requires : goal.unwrap-place-requires
unfolding volume_state
unwrap-place-requires g c =
    let volume = c.args.self.now in
    place_there (contents (log_of volume.store.journal)) volume.table c.args.number c.find.result c.find.ensures.none c.requires.file

pub read_bytes-requires : goal.read_bytes-requires
read_bytes-requires g c =
    let volume = c.args.self.now in
    let old : Log = log_of volume.store.journal in
    let cached_node = c.unwrap-cached.result.now in
    record {
      within = blocks_within (data_end_by volume.version old.size) old.size volume.limits.nodes c.unwrap-place.result volume.table volume.places cached_node
          (ends_on_device volume.version old.size volume.limits.nodes volume.served volume.sized) volume.known
          (some_at c.cached.result _ c.unwrap-cached.result c.unwrap-cached.ensures c.cached.ensures.some);
    }

pub returns-clause-bytes : goal.returns-clause-bytes
unfolding volume_state
returns-clause-bytes g c w =
    let volume = c.args.self.now in
    let old : Log = log_of volume.store.journal in
    let cached_node = c.unwrap-cached.result.now in
    let there = some_at c.cached.result _ c.unwrap-cached.result c.unwrap-cached.ensures c.cached.ensures.some in
    let number = some_at c.find.result _ c.unwrap-place.result c.unwrap-place.ensures c.find.ensures.some in
    let prefix : List ℕ = c.args.out.now.items in
    c.in_ok-read_bytes.ensures.bytes w
    ∙ ap (λ (s : List ℕ). prefix ++ take c.args.len (drop c.args.offset s))
    (sym (file_bytes (contents old) volume.table c.unwrap-place.result c.args.number cached_node volume.known.are_cached_nodes.apart there number c.requires.file))
