-- No public clause names this.
-- What the reduction keeps: links with numbered ends, 0 for none, counts, a link at hand for each end, and a table of links by ends.
use Rattle.std.specs.Prelude.{◌≡◌, ◌≢◌, ℕ, suc, ◌+◌, ◌*◌, ◌^◌, ◌<◌, ◌≤◌, nat_eq, cond, Bool, true, false, List, [], ◌∷◌, length}
use Rattle.std.specs.Prelude.{slice_index, slice_index_or, slice_set, Option, Some, None}
use Rattle.std.specs.List.{sum_by, list_any}
use Rattle.sp_reduce.specs.declared.link.Link.{Link}
use Rattle.sp_reduce.specs.declared.link.Taken.{Taken}
use Rattle.limits.specs.Limits.{most_tasks, most_arcs}
use Rattle.mp_system.specs.declared.system.Item.{Item}
use Rattle.graphs.specs.Graph.{end_of}
use Rattle.sp_reduce.specs.NetGraphs.{arc}

abbrev pub no_link : Link
no_link = record { alive = false; from = 0; to = 0 }

abbrev pub link_at : List Link → ℕ → Link
link_at links i = slice_index_or links i no_link

abbrev pub hit : ℕ → ℕ → ℕ
hit u v = cond (nat_eq u v) 1 0

abbrev pub link_weight : (ℕ → ℕ → ℕ) → Link → ℕ
link_weight g l = cond l.alive (g l.from l.to) 0

abbrev pub sum_links : (ℕ → ℕ → ℕ) → List Link → ℕ
sum_links g links = sum_by (link_weight g) links

-- how many links are alive
abbrev pub link_count : List Link → ℕ
link_count links = sum_links (λ p q. 1) links

-- how many links lead into a task, and how many out of it
abbrev pub links_into : ℕ → List Link → ℕ
links_into v links = sum_links (λ p q. hit q v) links

abbrev pub links_out_of : ℕ → List Link → ℕ
links_out_of v links = sum_links (λ p q. hit p v) links

-- each link leads from a task to one of a higher rank, so that the links have no cycle
abbrev pub AreLinksRanked : (ℕ → ℕ) → List Link → Type 0
AreLinksRanked rank links = (x : ℕ) → x < length links → (link_at links x).alive ≡ true →
    1 ≤ (link_at links x).from → 1 ≤ (link_at links x).to → rank (link_at links x).from < rank (link_at links x).to

-- the links' graph
abbrev pub graph_of : List Link → List Item
graph_of [] = []
graph_of (l ∷ ls) = cond l.alive (arc (end_of l.from) 0 (end_of l.to) ∷ graph_of ls) (graph_of ls)

-- both ends in one number
abbrev pub key_of : ℕ → ℕ → ℕ
key_of p q = p * 2 ^ 32 + q

-- each link leads between tasks, or from none or to none; the counts are those of the links; at each end that has links the place of
-- one is at hand; and the table has the place of each link that is alive, by its ends
pub record IsWork (n : ℕ) (rank : ℕ → ℕ) (links : List Link) (ins outs in_at out_at : List ℕ) (table : ℕ → Option ℕ) : Type 0 where
  pub lens : (length ins ≡ suc n) × (length outs ≡ suc n) × (length in_at ≡ suc n) × (length out_at ≡ suc n)
  pub inside : (x : ℕ) → x < length links → (link_at links x).alive ≡ true → ((link_at links x).from ≤ n) × ((link_at links x).to ≤ n)
  pub rising : AreLinksRanked rank links
  pub ins_are : (v : ℕ) → v ≤ n → slice_index ins v ≡ links_into v links
  pub outs_are : (v : ℕ) → v ≤ n → slice_index outs v ≡ links_out_of v links
  pub in_at_is : (v : ℕ) → v ≤ n → 1 ≤ slice_index ins v →
      (slice_index in_at v < length links) × ((link_at links (slice_index in_at v)).alive ≡ true)
      × ((link_at links (slice_index in_at v)).to ≡ v)
  pub out_at_is : (v : ℕ) → v ≤ n → 1 ≤ slice_index outs v →
      (slice_index out_at v < length links) × ((link_at links (slice_index out_at v)).alive ≡ true)
      × ((link_at links (slice_index out_at v)).from ≡ v)
  pub keyed : (x : ℕ) → x < length links → (link_at links x).alive ≡ true →
      table (key_of (link_at links x).from (link_at links x).to) ≡ Some x

-- what contracts see of the links: how many tasks there are, and the links, those that are dead among them
pub record LinksValue : Type 0 where
  pub tasks : ℕ
  pub list : List Link

-- what the representation of the links keeps
pub record AreIndexed (n : ℕ) (links : List Link) (ins outs in_at out_at : List ℕ) (table : ℕ → Option ℕ) : Type 0 where
  pub few_tasks : n ≤ most_tasks
  pub few_links : length links ≤ most_arcs
  pub rank : ℕ → ℕ
  pub work : IsWork n rank links ins outs in_at out_at table

-- no link has these ends
abbrev pub HasNone : List Link → ℕ → ℕ → Type 0
HasNone links p q = (x : ℕ) → x < length links → (link_at links x).alive ≡ true → (link_at links x).from ≡ p → (link_at links x).to ≡ q → ⊥

pub record IsLink (links : List Link) (x p q : ℕ) : Type 0 where
  pub within : x < length links
  pub alive : (link_at links x).alive ≡ true
  pub from : (link_at links x).from ≡ p
  pub to : (link_at links x).to ≡ q

abbrev pub stands : ℕ → List ℕ → Bool
stands u ts = list_any (λ t. nat_eq t u) ts

abbrev pub AreTasks : ℕ → List ℕ → Type 0
AreTasks n ts = (x : ℕ) → x < length ts → (1 ≤ slice_index ts x) × (slice_index ts x ≤ n)

-- each task that can be taken out stands in the list
abbrev pub AreNoted : ℕ → List Link → List ℕ → Type 0
AreNoted n links ts = (u : ℕ) → 1 ≤ u → u ≤ n → links_into u links ≡ 1 → links_out_of u links ≡ 1 → stands u ts ≡ true

-- no task can be taken out
abbrev pub IsIdle : ℕ → List Link → Type 0
IsIdle n links = (u : ℕ) → 1 ≤ u → u ≤ n → links_into u links ≡ 1 → links_out_of u links ≡ 1 → ⊥

-- the ends of the links that are alive
abbrev pub pairs_of : List Link → List (ℕ × ℕ)
pairs_of [] = []
pairs_of (l ∷ ls) = cond l.alive ((l.from, l.to) ∷ pairs_of ls) (pairs_of ls)

abbrev pub link : ℕ → ℕ → Link
link p q = record { alive = true; from = p; to = q }

-- what is left of the links of a task that is taken out: one from end to end, or none where it has a twin
abbrev pub IsLinkLeft : List Link → List Link → ℕ → ℕ → ℕ → ℕ → Option ℕ → Type 0
IsLinkLeft old new i j p s None = new ≡ slice_set (slice_set old i (link p s)) j no_link
IsLinkLeft old new i j p s (Some k) = IsLink old k p s × (new ≡ slice_set (slice_set old i no_link) j no_link)

-- a task was taken out: the one link into it and the one out of it became one
pub record IsTaskTaken (old new : List Link) (v : ℕ) (taken : Taken) : Type 0 where
  pub task : 1 ≤ v
  pub first : IsLink old taken.first taken.from v
  pub second : IsLink old taken.second v taken.to
  pub apart : taken.first ≢ taken.second
  pub other_from : taken.from ≢ v
  pub other_to : taken.to ≢ v
  pub one_in : links_into v old ≡ 1
  pub one_out : links_out_of v old ≡ 1
  pub left : IsLinkLeft old new taken.first taken.second taken.from taken.to taken.twin

-- how many links fewer there are
abbrev pub fewer_by : Option ℕ → ℕ
fewer_by None = 1
fewer_by (Some k) = 2
