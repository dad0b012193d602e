use Rattle.std.proofs.Common.{◌≡◌, ◌<◌, ◌++◌, [], ◌∷◌, ℕ, List, false, length, get_or, arith, refl, sym, ap, ◌∙◌}
use Rattle.sp_terms.specs.Postfix.{postfix}
use Rattle.graphs.specs.Graph.{listed_task}
use Rattle.sp_reduce.specs.declared.postfix.Pending.{Pending}
use Rattle.sp_reduce.specs.Nets.{names}
use Rattle.sp_reduce.specs.Pieces.{net_at, nets_of, piece_at}
use Rattle.sp_reduce.specs.Shapes.{size_of, term_of_net}
use Rattle.sp_reduce.specs.Writing.{all_sizes, children, own_positions, own_names}
use Rattle.sp_reduce.proofs.Writings.{writing-same, writing-done, writing-first, place-next, known-next, sizes-fall, written}
use Rattle.sp_reduce.proofs.postfix.write_term.Goals as goal

pub loop-next-init : goal.loop-next-init
loop-next-init c =
    let tasks = listed_task c.args.tasks.now in
    let n = length c.args.tasks.now in
    let ps = c.args.pieces.now in
    let t = net_at (nets_of c.args.pieces.now) c.args.root in
    let root : Pending = record { piece = c.args.root; among = false } in
    let items : c.push.new.self.items ≡ root ∷ [] =
    c.in_ok-push.ensures.items ∙ ap (λ (xs : List Pending). xs ++ root ∷ []) c.new-pending.ensures.items in
    writing-same tasks n ps (postfix (term_of_net tasks t)) (names t) (size_of t)
    (root ∷ []) c.push.new.self.items [] c.new.result.items [] c.new-2.result.items
    items c.new.ensures.items c.new-2.ensures.items
    (writing-first tasks n ps root (size_of t) refl c.requires.root (omega arith) c.requires.names)

pub write_next-requires-clause-place : goal.write_next-requires-clause-place
write_next-requires-clause-place c =
    let tasks = listed_task c.args.tasks.now in
    let n = length c.args.tasks.now in
    let ps = c.args.pieces.now in
    let t = net_at (nets_of c.args.pieces.now) c.args.root in
    let rest = c.pop.new.self.items in
    let next = c.in-Some.next in
    let h = writing-same tasks n ps (postfix (term_of_net tasks t)) (names t) (size_of t) c.loop-next.pending.items
    (rest ++ next ∷ []) c.loop-next.written.positions.items c.loop-next.written.positions.items
    c.loop-next.written.names.items c.loop-next.written.names.items (sym c.in-Some.ensures.items) refl refl c.loop-next.invariant in
    let lt : next.piece < length ps = place-next tasks n ps c.requires.made (postfix (term_of_net tasks t))
    (names t) (size_of t) rest next c.loop-next.written.positions.items c.loop-next.written.names.items h in
    (lt, omega (arith, lt, c.deref.ensures.len, c.in_ok-counts.ensures.len, ap length c.deref.ensures.value))

pub write_next-requires-clause-known : goal.write_next-requires-clause-known
write_next-requires-clause-known c =
    let tasks = listed_task c.args.tasks.now in
    let n = length c.args.tasks.now in
    let ps = c.args.pieces.now in
    let t = net_at (nets_of c.args.pieces.now) c.args.root in
    let rest = c.pop.new.self.items in
    let next = c.in-Some.next in
    let h = writing-same tasks n ps (postfix (term_of_net tasks t)) (names t) (size_of t) c.loop-next.pending.items
    (rest ++ next ∷ []) c.loop-next.written.positions.items c.loop-next.written.positions.items
    c.loop-next.written.names.items c.loop-next.written.names.items (sym c.in-Some.ensures.items) refl refl c.loop-next.invariant in
    known-next tasks n ps c.requires.made (postfix (term_of_net tasks t)) (names t)
    (size_of t) rest next c.loop-next.written.positions.items c.loop-next.written.names.items h

pub loop-next-preserved : goal.loop-next-preserved
loop-next-preserved c =
    let tasks = listed_task c.args.tasks.now in
    let n = length c.args.tasks.now in
    let ps = c.args.pieces.now in
    let t = net_at (nets_of c.args.pieces.now) c.args.root in
    let rest = c.pop.new.self.items in
    let next = c.in-Some.next in
    let positions = c.loop-next.written.positions.items in
    let named = c.loop-next.written.names.items in
    let number = get_or c.deref.result.now next.piece 0 in
    let h = writing-same tasks n ps (postfix (term_of_net tasks t)) (names t)
    (size_of t) c.loop-next.pending.items (rest ++ next ∷ []) positions positions named named
    (sym c.in-Some.ensures.items) refl refl c.loop-next.invariant in
    let lt : next.piece < length ps =
    place-next tasks n ps c.requires.made (postfix (term_of_net tasks t)) (names t) (size_of t) rest next positions named h in
    let done = written tasks n ps c.requires.made (postfix (term_of_net tasks t)) (names t)
    (size_of t) rest next positions named h (omega (arith, c.requires.small)) number
    (ap (λ (xs : List ℕ). get_or xs next.piece 0) c.deref.ensures.value ∙ c.in_ok-counts.ensures.counts next.piece lt) in
    writing-same tasks n ps (postfix (term_of_net tasks t)) (names t) (size_of t)
    (rest ++ children next.among (piece_at ps next.piece)) c.write_next.new.pending.items
    (positions ++ own_positions tasks next.among number (piece_at ps next.piece)) c.write_next.new.written.positions.items
    (named ++ own_names (piece_at ps next.piece)) c.write_next.new.written.names.items
    c.in_ok-write_next.ensures.pending c.in_ok-write_next.ensures.positions c.in_ok-write_next.ensures.names done

pub loop-next-smaller : goal.loop-next-smaller
loop-next-smaller c =
    let tasks = listed_task c.args.tasks.now in
    let n = length c.args.tasks.now in
    let ps = c.args.pieces.now in
    let t = net_at (nets_of c.args.pieces.now) c.args.root in
    let rest = c.pop.new.self.items in
    let next = c.in-Some.next in
    let positions = c.loop-next.written.positions.items in
    let named = c.loop-next.written.names.items in
    let h = writing-same tasks n ps (postfix (term_of_net tasks t)) (names t)
    (size_of t) c.loop-next.pending.items (rest ++ next ∷ []) positions positions named named
    (sym c.in-Some.ensures.items) refl refl c.loop-next.invariant in
    let less = sizes-fall tasks n ps c.requires.made (postfix (term_of_net tasks t)) (names t) (size_of t) rest next positions named h in
    let r : all_sizes (nets_of ps) c.write_next.new.pending.items < all_sizes (nets_of ps) c.loop-next.pending.items =
    omega (
      arith,
      less,
      ap (all_sizes (nets_of ps)) c.in_ok-write_next.ensures.pending,
      ap (all_sizes (nets_of ps)) c.in-Some.ensures.items,
    ) in
    r

pub returns-clause-positions : goal.returns-clause-positions
returns-clause-positions c =
    let tasks = listed_task c.args.tasks.now in
    let t = net_at (nets_of c.args.pieces.now) c.args.root in
    c.reverse.ensures.items
    ∙ (writing-done tasks (length c.args.tasks.now) c.args.pieces.now (postfix (term_of_net tasks t)) (names t)
    (size_of t) c.loop-next.pending.items c.loop-next.written.positions.items c.loop-next.written.names.items
    (omega (arith, c.in_default.ensures.cases, c.loop-next.pending.ok.0)) c.loop-next.invariant).0

pub returns-clause-names : goal.returns-clause-names
returns-clause-names c =
    let tasks = listed_task c.args.tasks.now in
    let t = net_at (nets_of c.args.pieces.now) c.args.root in
    c.reverse-2.ensures.items
    ∙ (writing-done tasks (length c.args.tasks.now) c.args.pieces.now (postfix (term_of_net tasks t)) (names t)
    (size_of t) c.loop-next.pending.items c.loop-next.written.positions.items c.loop-next.written.names.items
    (omega (arith, c.in_default.ensures.cases, c.loop-next.pending.ok.0)) c.loop-next.invariant).1
