use Rattle.std.proofs.Common.{◌≡◌, Option, None, sym, subst}
use Rattle.std.specs.Prelude.{Err, IfOk, IfErr, IfSome}
use Rattle.std.specs.Option.{option_map}
use Rattle.gds_elements.specs.declared.library.GdsFault.{GdsFault}
use Rattle.cell_graph.specs.Tops.{now_of}
use Rattle.gds_layout.specs.Causes.{of_stream}
use Rattle.gds_layout.specs.FedSoFar.{FedSoFar}
use Rattle.gds_layout.specs.Layouts.{IsRead, IsFaultOf}
use Rattle.gds_layout.proofs.LinkLemmas.{never_met, read_of, fault_of}
use Rattle.gds_layout.proofs.reader.LayoutReader.answer.Goals as goal

pub layout_of-requires : goal.layout_of-requires
layout_of-requires c =
    let reader = c.self.inside.reader in
    record {
      taken = reader.taken;
      drawn = c.self.invariant (never_met reader.fault c.in_ok-rest.rest c.in_ok-rest.ensures.again);
      accepted = (reader.fed, c.in_ok-rest.ensures.found);
    }

pub returns-clause-layout : goal.returns-clause-layout
returns-clause-layout c =
    let reader = c.self.inside.reader in
    subst (λ (s : FedSoFar). IfOk c.layout_of.result (IsRead s.fed (now_of c.args.top))) c.self.view_is
    (read_of reader.fed reader.taken c.in_ok-rest.rest c.self.inside.drawn (now_of c.args.top) c.layout_of.result
    (c.self.invariant (never_met reader.fault c.in_ok-rest.rest c.in_ok-rest.ensures.again)) c.in_ok-rest.ensures.found c.layout_of.ensures.layout)

pub returns-clause-fault : goal.returns-clause-fault
returns-clause-fault c =
    let reader = c.self.inside.reader in
    subst (λ (s : FedSoFar). IfErr c.layout_of.result (IsFaultOf s.fed (now_of c.args.top))) c.self.view_is
    (fault_of reader.fed reader.taken c.in_ok-rest.rest c.self.inside.drawn (now_of c.args.top) c.layout_of.result
    (c.self.invariant (never_met reader.fault c.in_ok-rest.rest c.in_ok-rest.ensures.again)) c.in_ok-rest.ensures.found c.layout_of.ensures.fault)

pub returns-clause-again : goal.returns-clause-again
returns-clause-again c =
    let reader = c.self.inside.reader in
    let none : reader.fault ≡ None = never_met reader.fault c.in_ok-rest.rest c.in_ok-rest.ensures.again in
    subst (λ (s : FedSoFar). IfSome s.fault (λ f. c.layout_of.result ≡ Err f)) c.self.view_is
    (subst (λ (o : Option GdsFault). IfSome (option_map of_stream o) (λ f. c.layout_of.result ≡ Err f)) (sym none) tt)
