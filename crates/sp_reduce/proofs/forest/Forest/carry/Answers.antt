use Rattle.std.proofs.Common.{◌≡◌, ℕ, ◌+◌, List, [], ◌∷◌, ◌++◌, length, get_or, set, sym, subst, ◌∙◌, arith}
use Rattle.std.proofs.lemmas.List.{get_or_read}
use Rattle.sp_reduce.specs.declared.link.Link.{Link}
use Rattle.sp_reduce.specs.declared.piece.Piece.{Piece}
use Rattle.sp_reduce.specs.declared.piece.Piece.TheVariants.{Series, Both}
use Rattle.sp_reduce.specs.Work.{no_link, link, IsLink, IsLinkLeft}
use Rattle.sp_reduce.specs.Pieces.{IsCarried}
use Rattle.sp_reduce.proofs.Carried.{carried-joined, carried-merged}
use Rattle.sp_reduce.proofs.forest.Forest.carry.Goals as goal

pub returns-in-None-clause-carried : goal.returns-in-None-clause-carried
returns-in-None-clause-carried c = λ graph old new t h.
    let i = c.args.taken.first in
    let j = c.args.taken.second in
    let p = c.args.taken.from in
    let s = c.args.taken.to in
    let ps = c.args.self.now.pieces.items in
    let nodes = c.args.self.now.nodes.items in
    let left : new ≡ set (set old i (link p s)) j no_link = subst (IsLinkLeft old new i j p s) c.in-None.is t.left in
    let into : c.index.result.now ≡ get_or nodes i 0 =
    get_or_read nodes i c.index.result.now (omega (arith, c.args.self.now.nodes.ok, c.requires.places)) c.index.ensures 0 in
    let out_of : c.index-2.result.now ≡ get_or nodes j 0 =
    get_or_read nodes j c.index-2.result.now (omega (arith, c.args.self.now.nodes.ok, c.requires.places)) c.index-2.ensures 0 in
    let series : Piece = Series (get_or nodes i 0) c.args.task (get_or nodes j 0) in
    let pushed : c.push.new.self.items ≡ ps ++ series ∷ [] =
    c.in_ok-push.ensures.items ∙ (λ z. ps ++ Series (into z) c.args.task (out_of z) ∷ []) in
    let len : c.len-series.result ≡ length ps = omega (arith, c.len-series.ensures, c.args.self.now.pieces.ok) in
    let done = carried-joined graph ps old nodes h c.args.task i j p s t.task t.first t.second t.apart t.one_in t.one_out in
    subst (λ (ls : List Link). IsCarried graph [] c.push.new.self.items ls (set nodes i c.len-series.result)) (sym left)
    (subst (λ (m : ℕ). IsCarried graph [] c.push.new.self.items (set (set old i (link p s)) j no_link) (set nodes i m)) (sym len)
    (subst (λ (xs : List Piece). IsCarried graph [] xs (set (set old i (link p s)) j no_link) (set nodes i (length ps))) (sym pushed) done))

pub returns-in_ok-push-in-Some-clause-carried : goal.returns-in_ok-push-in-Some-clause-carried
returns-in_ok-push-in-Some-clause-carried c = λ graph old new t h.
    let i = c.args.taken.first in
    let j = c.args.taken.second in
    let p = c.args.taken.from in
    let s = c.args.taken.to in
    let k = c.in-Some.twin in
    let ps = c.args.self.now.pieces.items in
    let nodes = c.args.self.now.nodes.items in
    let left : IsLink old k p s × (new ≡ set (set old i no_link) j no_link) = subst (IsLinkLeft old new i j p s) c.in-Some.is t.left in
    let into : c.index.result.now ≡ get_or nodes i 0 =
    get_or_read nodes i c.index.result.now (omega (arith, c.args.self.now.nodes.ok, c.requires.places)) c.index.ensures 0 in
    let out_of : c.index-2.result.now ≡ get_or nodes j 0 =
    get_or_read nodes j c.index-2.result.now (omega (arith, c.args.self.now.nodes.ok, c.requires.places)) c.index-2.ensures 0 in
    let series : Piece = Series (get_or nodes i 0) c.args.task (get_or nodes j 0) in
    let pushed : c.push.new.self.items ≡ ps ++ series ∷ [] =
    c.in_ok-push.ensures.items ∙ (λ z. ps ++ Series (into z) c.args.task (out_of z) ∷ []) in
    let len : c.len-series.result ≡ length ps = omega (arith, c.len-series.ensures, c.args.self.now.pieces.ok) in
    let other : c.index-in-Some.result.now ≡ get_or nodes k 0 = get_or_read nodes k c.index-in-Some.result.now
    (omega (arith, c.args.self.now.nodes.ok, c.requires.twin k c.in-Some.is)) c.index-in-Some.ensures 0 in
    let done = carried-merged graph ps old nodes h c.args.task i j p s t.task t.first t.second t.apart
    t.one_in t.one_out k left.0 t.other_from t.other_to (c.len-series.result + 1) (omega (arith, len)) in
    let items : c.push-in-Some.new.self.items ≡ (ps ++ series ∷ []) ++ Both (get_or nodes k 0) (length ps) ∷ [] =
    c.in_ok-push-in-Some.ensures.items ∙ (λ z. pushed z ++ Both (other z) (len z) ∷ []) in
    subst (λ (ls : List Link). IsCarried graph [] c.push-in-Some.new.self.items ls (set nodes k (c.len-series.result + 1))) (sym left.1)
    (subst (λ (xs : List Piece). IsCarried graph [] xs (set (set old i no_link) j no_link) (set nodes k (c.len-series.result + 1)))
    (sym items) done)
