use Rattle.std.proofs.Common.{◌<◌, ℕ, ◌∙◌, sym, ap, subst, arith, List, length, get_or}
use Rattle.std.specs.Prelude.{Vec}
use Rattle.std.specs.Global.{Global}
use Rattle.geo_base.specs.declared.shapes.Rect.{Rect}
use Rattle.link_classes.specs.Classes.{AreClasses, AreInRange}
use Rattle.link_classes.specs.declared.classes.Link.{Link}
use Rattle.rect_sets.specs.Rects.{IsCanonical}
use Rattle.gate_shapes.specs.Contacts.{joint_of}
use Rattle.gate_shapes.specs.PartLists.{AreRegions}
use Rattle.gate_shapes.specs.Sorted.{AreSetsOf, AreSortedOut, HaveRects}
use Rattle.gate_shapes.proofs.PartsOf.{parts_law, have_rects}
use Rattle.gate_shapes.proofs.pieces.regions.Goals as goal

pub contacts-requires : goal.contacts-requires
contacts-requires c =
    let n = c.in_ok-n.ensures.length in
    record { canonical = subst (λ (l : List Rect). IsCanonical l) (sym c.rects-rects.ensures.list) c.rects-rects.ensures.canonical; few = omega (arith, n) }

pub joined_classes-requires : goal.joined_classes-requires
joined_classes-requires c =
    subst (λ (l : List Link). AreInRange c.in_ok-n.n l) (sym c.deref.ensures.value) (subst (λ (n : ℕ). AreInRange n c.in_ok-links.links.items) (sym c.in_ok-n.ensures.length) c.in_ok-links.ensures.inside)

pub sorted_out-requires : goal.sorted_out-requires
sorted_out-requires c =
    let classes = c.in_ok-classes.ensures in
    let n = c.in_ok-n.ensures.length in
    let same = c.deref-2.ensures.value in
    record {
      long = ap (λ (l : List ℕ). length l) same ∙ classes.long ∙ n;
      below = λ i lt. subst (λ (l : List ℕ). get_or l i 0 < c.in_ok-classes.classes.count) (sym same) (classes.below i (omega (arith, n)));
    }

pub sets_of-requires : goal.sets_of-requires
sets_of-requires c =
    let rects = c.rects-rects.result.now in
    let good = subst (λ (l : List Rect). IsCanonical l) (sym c.rects-rects.ensures.list) c.rects-rects.ensures.canonical in
    let cs = c.in_ok-classes.classes.class_of.items in
    let classes = subst (λ (l : List Link). AreClasses c.in_ok-n.n l cs c.in_ok-classes.classes.count) c.deref.ensures.value c.in_ok-classes.ensures in
    let sorted = subst (λ (l : List ℕ). AreSortedOut rects l c.in_ok-classes.classes.count c.in_ok-lists.lists.items) c.deref-2.ensures.value c.in_ok-lists.ensures in
    subst (λ (l : List (Vec Rect Global)). HaveRects l) (sym c.deref-3.ensures.value)
    (have_rects (joint_of c.args.joint) rects good c.in_ok-links.links.items c.in_ok-links.ensures c.in_ok-n.n c.in_ok-classes.classes.count cs c.in_ok-n.ensures.length classes c.in_ok-lists.lists.items sorted)

pub returns : goal.returns
returns c =
    let rects = c.rects-rects.result.now in
    let good = subst (λ (l : List Rect). IsCanonical l) (sym c.rects-rects.ensures.list) c.rects-rects.ensures.canonical in
    let cs = c.in_ok-classes.classes.class_of.items in
    let classes = subst (λ (l : List Link). AreClasses c.in_ok-n.n l cs c.in_ok-classes.classes.count) c.deref.ensures.value c.in_ok-classes.ensures in
    let sorted = subst (λ (l : List ℕ). AreSortedOut rects l c.in_ok-classes.classes.count c.in_ok-lists.lists.items) c.deref-2.ensures.value c.in_ok-lists.ensures in
    let made = subst (λ (l : List (Vec Rect Global)). AreSetsOf l c.in_ok-sets.sets.items) c.deref-3.ensures.value c.in_ok-sets.ensures in
    subst (λ (l : List Rect). AreRegions (joint_of c.args.joint) l c.in_ok-sets.sets.items) c.rects-rects.ensures.list
    (parts_law (joint_of c.args.joint) rects good c.in_ok-links.links.items c.in_ok-links.ensures c.in_ok-n.n c.in_ok-classes.classes.count cs c.in_ok-n.ensures.length classes c.in_ok-lists.lists.items sorted c.in_ok-sets.sets.items made)
