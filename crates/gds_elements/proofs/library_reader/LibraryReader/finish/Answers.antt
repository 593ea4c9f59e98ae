use Rattle.std.proofs.Common.{ℕ, IfOk, IfErr, subst}
use Rattle.gds_elements.specs.Faults.{Accepts, FirstFault}
use Rattle.gds_elements.specs.Meaning.{Library}
use Rattle.gds_elements.specs.Reading.{IsFaultOf, OnlyFault, OnlyRest, library_after, taken_cells}
use Rattle.gds_elements.specs.FedSoFar.{FedSoFar}
use Rattle.gds_elements.specs.Token.{bytes_of}
use Rattle.gds_elements.proofs.Unique.{only_rest, only_fault}
use Rattle.gds_elements.proofs.library_reader.LibraryReader.finish.Goals as goal

pub returns-clause-found : goal.returns-clause-found
returns-clause-found c =
    subst (λ (s : FedSoFar). IfOk c.finish.result (λ v. Accepts s.fed (library_after s.taken v))) c.self.view_is
    (c.finish.ensures.found (bytes_of c.self.inside.fed.value) c.self.invariant.reading)

pub returns-clause-fault : goal.returns-clause-fault
returns-clause-fault c =
    subst (λ (s : FedSoFar). IfErr c.finish.result (λ e. IsFaultOf s.fed e)) c.self.view_is
    (c.finish.ensures.fault (bytes_of c.self.inside.fed.value) c.self.invariant.reading)

pub returns-clause-only : goal.returns-clause-only
returns-clause-only c =
    let fed = bytes_of c.self.inside.fed.value in
    let taken = taken_cells c.self.inside.pieces.stream.kept.taken.value in
    subst (λ (s : FedSoFar). (v : Library) → Accepts s.fed v → OnlyRest s.taken v c.finish.result) c.self.view_is
    (λ v h. only_rest fed taken v c.finish.result (c.finish.ensures.found fed c.self.invariant.reading) (c.finish.ensures.fault fed c.self.invariant.reading) h)

pub returns-clause-only_fault : goal.returns-clause-only_fault
returns-clause-only_fault c =
    let fed = bytes_of c.self.inside.fed.value in
    let taken = taken_cells c.self.inside.pieces.stream.kept.taken.value in
    subst (λ (s : FedSoFar). (number index offset : ℕ) → FirstFault s.fed number index offset → OnlyFault number index offset c.finish.result) c.self.view_is
    (λ n i o h. only_fault fed taken n i o c.finish.result (c.finish.ensures.found fed c.self.invariant.reading) (c.finish.ensures.fault fed c.self.invariant.reading) h)
