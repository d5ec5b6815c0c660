use Rattle.std.proofs.Common.{ℕ, ◌∙◌, Err, ap, sym, subst, arith}
use Rattle.disk.specs.Moments.{History, seen}
use Rattle.journal.specs.Journal.{log_of, journal_failures}
use Rattle.journal.specs.Layout.{IsArea, area_end}
use Rattle.journal.specs.MountAnswers as journal
use Rattle.volume.specs.VolumeState.{IsJustMounted}
use Rattle.volume.specs.Views.{volume_state}
use Rattle.volume.specs.MountAnswers.{IsMountRefused}
use Rattle.volume.specs.Refusals.{gate_fault}
use Rattle.volume.proofs.FoundLaws.{as_found, base_first, has_size, if_ok_all, if_err_all}
use Rattle.volume.proofs.MountedLaws.{recovered_few, refused_untouched, first_reason, back_since, gate_counted, gate_refused, begun_found, begin_refused}
use Rattle.volume.proofs.StandLaws.{is_area, log_within, placed_on}
use Rattle.volume.proofs.volume.Volume.mount_seated.Goals as goal

pub returns-in-Err-clause-gives_back : goal.returns-in-Err-clause-gives_back
returns-in-Err-clause-gives_back g c = record {
  back = record {
    same_size = c.read_mountable_superblock.ensures.same_size;
    later = c.read_mountable_superblock.ensures.later;
    cause = λ is. c.in-Err.ensures.cause (ap (λ x. Err x) is);
    none = λ other. c.in-Err.ensures.none (λ is. other (cc));
  };
  refused = λ k.
      let D = g.D.Device in
      refused_untouched (D.size c.args.device) (D.history c.args.device) (D.history c.read_mountable_superblock.new.device) c.in-Err.fault c.read_mountable_superblock.ensures.history
      (first_reason (D.size c.args.device) (D.history c.args.device) (D.history c.read_mountable_superblock.new.device) c.read_mountable_superblock.ensures.history c.in-Err.fault
      (λ is. rw is at c.in-Err.ensures.told k) (λ is. rw is at c.in-Err.ensures.told k) (λ is. rw is at c.in-Err.ensures.told k));
}

pub mount_in-requires-clause-area : goal.mount_in-requires-clause-area
mount_in-requires-clause-area g c =
    let found = c.in-Ok.found in
    subst IsArea (sym c.log_area-area.ensures) (is_area found.version found.sectors c.in-Ok.ensures.volume.number)

pub mount_in-requires-clause-large : goal.mount_in-requires-clause-large
mount_in-requires-clause-large g c =
    let found = c.in-Ok.found in
    let volume = c.in-Ok.ensures.volume in
    let within = log_within found.version found.sectors found.nodes volume.number volume.sized in
    omega (arith, within, ap area_end c.log_area-area.ensures, volume.size, c.read_mountable_superblock.ensures.same_size)

pub begin-requires-clause-rests : goal.begin-requires-clause-rests
begin-requires-clause-rests g c =
    let new = c.in-Ok-mount_in.ensures.new in
    let found = c.in-Ok.found in
    record {
      up = new.is_down;
      listed = new.list;
      placed = placed_on found.version (log_of c.in-Ok-mount_in.journal).area c.log_area-area.result (log_of c.in-Ok-mount_in.journal).size found.sectors new.same_area
          (new.size ∙ (c.read_mountable_superblock.ensures.same_size ∙ sym c.in-Ok.ensures.volume.size)) c.log_area-area.ensures;
    }

pub begin-requires-clause-base : goal.begin-requires-clause-base
begin-requires-clause-base g c = λ k.
    let D = g.D.Device in
    let sectors : ℕ = D.size c.args.device in
    let old : History = D.history c.args.device in
    let found = c.in-Ok.found in
    let log = log_of c.in-Ok-mount_in.journal in
    let is = has_size sectors found c.in-Ok.ensures.volume in
    let first = (c.in-Ok.ensures.told k).1 in
    let recovered = as_found sectors old (D.history c.read_mountable_superblock.new.device) found c.log_area-area.result (λ area history. journal.HasRecovered area history log) is first
    c.log_area-area.ensures c.read_mountable_superblock.ensures.history (c.in-Ok-mount_in.ensures.mounted k) in
    record {
      first = base_first sectors (seen old.now) log.base found is first recovered.base;
      sectors = λ n within. recovered.sectors n within;
    }

pub returns-in-Err-mount_in-clause-gives_back : goal.returns-in-Err-mount_in-clause-gives_back
returns-in-Err-mount_in-clause-gives_back g c =
    let D = g.D.Device in
    let sectors : ℕ = D.size c.args.device in
    let old : History = D.history c.args.device in
    let device = c.in-Err-mount_in.refused.device in
    let new : History = D.history device in
    let fault = c.in-Err-mount_in.refused.fault in
    let back = c.in-Err-mount_in.ensures.back in
    record {
      back = back_since D.size D.failed sectors (D.failed c.args.device) (D.size c.read_mountable_superblock.new.device) (D.failed c.read_mountable_superblock.new.device) _ c.read_mountable_superblock.ensures.same_size (c.in-Ok.ensures.none (λ is. absurd (cc)))
          (record {
            same_size = back.refused_size;
            later = back.later;
            cause = λ is. gate_counted (D.failed c.read_mountable_superblock.new.device) (D.failed device) fault back.reasons back.counted (sym c.into.ensures ∙ is);
            none = λ other. back.none (λ is. other (c.into.ensures ∙ ap gate_fault is));
          });
      refused = λ k.
          let told = as_found sectors old (D.history c.read_mountable_superblock.new.device) c.in-Ok.found c.log_area-area.result (λ area history. journal.IsRecoveryRefused area history new fault)
          (has_size sectors c.in-Ok.found c.in-Ok.ensures.volume) (c.in-Ok.ensures.told k).1 c.log_area-area.ensures c.read_mountable_superblock.ensures.history (c.in-Err-mount_in.ensures.refused k) in
          subst (IsMountRefused sectors old new) (sym c.into.ensures)
          (gate_refused sectors old new (c.in-Ok.ensures.told k).0 told.refused told.brief fault told.damaged (λ is. ap D.history (back.memory is) ∙ c.read_mountable_superblock.ensures.history));
    }

pub returns-in-Ok-mount_in-clause-serves : goal.returns-in-Ok-mount_in-clause-serves
returns-in-Ok-mount_in-clause-serves g c =
    let D = g.D.Device in
    let sectors : ℕ = D.size c.args.device in
    let old : History = D.history c.args.device in
    let found = c.in-Ok.found in
    let log = log_of c.in-Ok-mount_in.journal in
    let is = has_size sectors found c.in-Ok.ensures.volume in
    let word = D.keeps_word in
    let recovered = λ (k : word). as_found sectors old (D.history c.read_mountable_superblock.new.device) found c.log_area-area.result (λ area history. journal.HasRecovered area history log) is
    (c.in-Ok.ensures.told k).1 c.log_area-area.ensures c.read_mountable_superblock.ensures.history (c.in-Ok-mount_in.ensures.mounted k) in
    if_ok_all c.begin.result word _ _ _ _
    (λ mounted_it new counted begun. record {
      new = subst (λ (n : ℕ). IsJustMounted n (volume_state mounted_it.volume)) (c.in-Ok-mount_in.ensures.new.size ∙ c.read_mountable_superblock.ensures.same_size) new;
      counted = counted ∙ (c.in-Ok-mount_in.ensures.new.failures ∙ c.in-Ok.ensures.none (λ is. absurd (cc)));
      mounted = λ k. begun_found sectors old log.history found log.base is (c.in-Ok.ensures.told k).0 (c.in-Ok.ensures.told k).1 (recovered k).base (recovered k).moments
          (recovered_few sectors old log.history log.base (recovered k).base (recovered k).cost) (volume_state mounted_it.volume) (recovered k).since_sync (begun k);
    })
    c.begin.ensures.new c.begin.ensures.counted c.begin.ensures.begun

pub returns-in-Ok-mount_in-clause-gives_back : goal.returns-in-Ok-mount_in-clause-gives_back
returns-in-Ok-mount_in-clause-gives_back g c =
    let D = g.D.Device in
    let sectors : ℕ = D.size c.args.device in
    let old : History = D.history c.args.device in
    let found = c.in-Ok.found in
    let log = log_of c.in-Ok-mount_in.journal in
    let is = has_size sectors found c.in-Ok.ensures.volume in
    let word = D.keeps_word in
    let recovered = λ (k : word). as_found sectors old (D.history c.read_mountable_superblock.new.device) found c.log_area-area.result (λ area history. journal.HasRecovered area history log) is
    (c.in-Ok.ensures.told k).1 c.log_area-area.ensures c.read_mountable_superblock.ensures.history (c.in-Ok-mount_in.ensures.mounted k) in
    if_err_all c.begin.result word _ _ _
    (λ unmounted back begun. record {
      back = back_since D.size D.failed sectors (D.failed c.args.device) log.size (journal_failures c.in-Ok-mount_in.journal) unmounted
          (c.in-Ok-mount_in.ensures.new.size ∙ c.read_mountable_superblock.ensures.same_size) (c.in-Ok-mount_in.ensures.new.failures ∙ c.in-Ok.ensures.none (λ is. absurd (cc))) back;
      refused = λ k. begin_refused sectors old log.history found log.base is (c.in-Ok.ensures.told k).0 (c.in-Ok.ensures.told k).1 (recovered k).base (recovered k).moments
          (recovered_few sectors old log.history log.base (recovered k).base (recovered k).cost) (D.history unmounted.device) unmounted.fault (begun k);
    })
    c.begin.ensures.back c.begin.ensures.refused
