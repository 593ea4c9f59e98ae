use Rattle.std.proofs.Common.{ℕ, List, ◌+◌, ◌≤◌, length, vec_len, sym, subst, arith}
use Rattle.std.proofs.lemmas.List.{length-append}
use Rattle.gds_elements.specs.Pieces.{Fed, Tells}
use Rattle.gds_elements.specs.Token.{bytes_of}
use Rattle.gds_elements.proofs.library_reader.LibraryReader.feed.Goals as goal

pub invariant_of-self : goal.invariant_of-self
invariant_of-self c =
    let fed = bytes_of c.self.inside.fed.value in
    let told = c.feed-told.ensures in
    let was = c.self.invariant.room in
    let now = told.room in
    let all = length-append fed c.args.piece.now in
    let is = sym c.add_bytes.ensures in
    record {
      reading = subst (λ (ws : List ℕ). Fed ws c.feed-told.new.self) is (told.reading fed c.self.invariant.reading).0;
      count = told.count;
      room = subst (λ (ws : List ℕ). c.feed-told.new.self.stream.offset + vec_len c.feed-told.new.self.held ≤ length ws) is (omega (arith, was, now, all));
    }

pub returns-clause-tells : goal.returns-clause-tells
returns-clause-tells c =
    let fed = bytes_of c.self.inside.fed.value in
    subst (λ (ws : List ℕ). Tells ws c.feed-told.result) (sym c.add_bytes.ensures) (c.feed-told.ensures.reading fed c.self.invariant.reading).1
