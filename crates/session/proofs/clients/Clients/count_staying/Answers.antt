use Rattle.std.proofs.Common.{filter, length, sym, ap, ◌∙◌, rules, tests}
use Rattle.session.specs.declared.client.Client.{Client}
use Rattle.session.specs.Views.{client_of}
use Rattle.session.specs.Rooms.{stays}
use Rattle.std.proofs.lemmas.List.{length-map}
use Rattle.std.proofs.lemmas.Iterator.{YieldsList-from_slice}
use Rattle.std.proofs.lemmas.Iterator.Consumers.{YieldsList-from_filter, count_from_yields_List}
use Rattle.model.proofs.Operations.NodeAttributeLaws.{filter-map}
use Rattle.session.proofs.clients.Clients.count_staying.Goals as goal

pub returns : goal.returns
returns c =
    let staying = λ (client : Client). stays c.args.owner.now c.args.dropped c.args.yielded (client_of client) in
    count_from_yields_List _ c.count.result c.count.ensures.ran
    (YieldsList-from_filter _ staying (YieldsList-from_slice c.args.self.now.list.items cc) c.filter.ensures.closure (λ x b q k. search (rules, tests)))
    ∙ sym (length-map (filter staying c.args.self.now.list.items) client_of)
    ∙ sym (ap length (filter-map (stays c.args.owner.now c.args.dropped c.args.yielded) client_of c.args.self.now.list.items))
