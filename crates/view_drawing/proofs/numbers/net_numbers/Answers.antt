use Rattle.std.proofs.Common.{◌≡◌, ◌∙◌, ℕ, List, Option, [], ap, map, subst, sym}
use Rattle.deep_tables.specs.Pins.{plain_pins}
use Rattle.spice_text.specs.Needs.{first_seen}
use Rattle.text_table.specs.Texts.{place_of}
use Rattle.view_drawing.specs.Shown.{TellsNets}
use Rattle.view_drawing.specs.Numbers.{spread}
use Rattle.view_drawing.proofs.Telling.{names_few, numbers_tell}
use Rattle.view_drawing.proofs.numbers.net_numbers.Goals as goal

pub returns : goal.returns
returns c long nets k e h =
    let pins = plain_pins c.args.pins.now in
    let drawn = c.args.drawn.now in
    let few = c.sound_netlist.ensures.nets _ (names_few pins drawn c.in_ok-number.ensures.few) in
    let table : c.in_ok-table.table ≡ first_seen [] k.nets = c.in_ok-table.ensures ∙ ap (λ (ns : List (List ℕ)). first_seen [] ns) (sym e) in
    let places = c.in_ok-places.ensures ∙ (ap (λ (t : List (List ℕ)). map (place_of t) c.deref.result.now) table ∙ ap (λ (o : List (List ℕ)). map (place_of (first_seen [] k.nets)) o) (c.deref.ensures.value ∙ c.in_ok-own.ensures)) in
    let is = c.in_ok-numbers.ensures ∙ ap (λ (l : List ℕ). spread drawn l) (c.deref-2.ensures.value ∙ places) in
    subst (λ (l : List (Option ℕ)). TellsNets drawn l nets) (sym is) (numbers_tell pins drawn nets k h few)
