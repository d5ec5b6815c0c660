use Rattle.std.proofs.Common.{ℕ, not, ◌==◌, ◌∙◌, ap, map, rules, tests}
use Rattle.std.proofs.lemmas.Fn.{filter_same}
use Rattle.std.specs.List.{list_any}
use Rattle.model.specs.Sessions.Opens as model
use Rattle.opens.specs.declared.open.Entry.{Entry}
use Rattle.opens.specs.Views.{entry_of, opens_of}
use Rattle.opens.proofs.Known.{keeps, map-filter}
use Rattle.opens.proofs.opens.Opens.remove_clients.Goals as goal

pub invariant_of-self : goal.invariant_of-self
invariant_of-self c =
    let kept = filter_same _ (λ (entry : Entry). not (list_any (λ client. entry.state.client == client) c.args.clients.now)) _ (λ x b f' k. search (rules, tests)) _ _ c.retain.ensures.filtered in
    let now = keeps (λ (entry : Entry). entry.serial) c.args.self.now.given _ _ _ kept c.args.self.now.rising c.args.self.now.made in
    record { rising = now.rising; made = now.made }

pub returns : goal.returns
unfolding opens_of
returns c =
    let kept = filter_same _ (λ (entry : Entry). not (list_any (λ client. entry.state.client == client) c.args.clients.now)) _ (λ x b f' k. search (rules, tests)) _ _ c.retain.ensures.filtered in
    ap (λ known. record { given = c.args.self.now.given; known = known }) (ap (λ entries. map entry_of entries) kept ∙ map-filter entry_of (λ (entry : ℕ × model.Open). not (list_any (λ client. entry.1.client == client) c.args.clients.now)) c.args.self.now.list.items)
