use Rattle.std.proofs.Common.{rules, tests, sym, ◌∙◌, ◌&&◌, ◌==◌}
use Rattle.std.proofs.lemmas.Iterator.{YieldsList-from_slice}
use Rattle.std.proofs.lemmas.Iterator.Search.{any_from_yields_List}
use Rattle.model.specs.Sessions.Session.{is_replaced_by, Client as Known}
use Rattle.session.specs.declared.client.Client.{Client}
use Rattle.session.specs.Views.{client_of, clients_of}
use Rattle.session.proofs.Lists.{list_any-map, any_filtered}
use Rattle.session.proofs.clients.Clients.is_ending.Goals as goal

pub returns : goal.returns
returns c =
    any_from_yields_List (λ (other : Client). is_replaced_by (client_of c.args.client.now) (client_of other) && (c.args.number == other.number)) _ _ _ c.any.ensures.ran (YieldsList-from_slice c.args.self.now.list.items cc) (λ x b q k. search (rules, tests))
    ∙ sym (list_any-map (λ (other : Known). is_replaced_by (client_of c.args.client.now) other && (c.args.number == other.number)) client_of c.args.self.now.list.items)
    ∙ sym (any_filtered (λ ended. c.args.number == ended) (λ (other : Known). other.number) (is_replaced_by (client_of c.args.client.now)) (clients_of c.args.self.now))
