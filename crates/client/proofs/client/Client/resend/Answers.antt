use Rattle.std.proofs.Common.{◌≡◌, Some, refl, rules}
use Rattle.client.specs.Requests.{bytes_kept}
use Rattle.client.proofs.Exchanging.{not_received}
use Rattle.client.proofs.client.Client.resend.Goals as goal

pub returns-in-Err : goal.returns-in-Err
returns-in-Err g c =
    let kept : bytes_kept c.args.self.now.sent ≡ Some c.deref.result.now = search rules in
    not_received _ _ _ _ _ c.in-Err.fault _ kept c.in-Err.ensures refl
