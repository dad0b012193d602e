-- The kinds of faults, as c/memplan.h names them, where each says what it means.
use Rattle.std.specs.Prelude.{ℕ}

abbrev pub no_memory : ℕ
no_memory = 1

abbrev pub room : ℕ
room = 2

abbrev pub claim_room : ℕ
claim_room = 3

abbrev pub workers : ℕ
workers = 4

abbrev pub no_node : ℕ
no_node = 10

abbrev pub many_tasks : ℕ
many_tasks = 11

abbrev pub parent : ℕ
parent = 12

abbrev pub time : ℕ
time = 13

abbrev pub size : ℕ
size = 14

abbrev pub long_time : ℕ
long_time = 15

abbrev pub total : ℕ
total = 16

abbrev pub cycle : ℕ
cycle = 17

abbrev pub share : ℕ
share = 18

abbrev pub unknown : ℕ
unknown = 20

abbrev pub repeated : ℕ
repeated = 21

abbrev pub too_early : ℕ
too_early = 22

abbrev pub missing : ℕ
missing = 23

abbrev pub bound_below : ℕ
bound_below = 30

abbrev pub working_set : ℕ
working_set = 31

abbrev pub long_order : ℕ
long_order = 40

abbrev pub great_peak : ℕ
great_peak = 41

abbrev pub many_claims : ℕ
many_claims = 42

abbrev pub claim : ℕ
claim = 43

abbrev pub other_peak : ℕ
other_peak = 44

abbrev pub no_root_claim : ℕ
no_root_claim = 45

abbrev pub wrong_claim : ℕ
wrong_claim = 46

abbrev pub many_items : ℕ
many_items = 50

abbrev pub ends : ℕ
ends = 51

abbrev pub item_size : ℕ
item_size = 52

abbrev pub many_uses : ℕ
many_uses = 53

abbrev pub counts : ℕ
counts = 54

abbrev pub readers : ℕ
readers = 55

abbrev pub apart : ℕ
apart = 56

abbrev pub rising : ℕ
rising = 57

abbrev pub base : ℕ
base = 60

abbrev pub no_column : ℕ
no_column = 61

abbrev pub many_columns : ℕ
many_columns = 62

abbrev pub many_entries : ℕ
many_entries = 63

abbrev pub start : ℕ
start = 64

abbrev pub entries : ℕ
entries = 65

abbrev pub row : ℕ
row = 66

abbrev pub places : ℕ
places = 67

abbrev pub no_such_column : ℕ
no_such_column = 68

abbrev pub column_repeated : ℕ
column_repeated = 69

abbrev pub degree : ℕ
degree = 70

abbrev pub shape : ℕ
shape = 71

abbrev pub node_room : ℕ
node_room = 72

abbrev pub column_fronts : ℕ
column_fronts = 73

abbrev pub no_such_front : ℕ
no_such_front = 74
