-- The manual's limits and the numbers of its table, by name. Assumes nothing.
use Rattle.std.specs.Prelude.{ℕ, ◌^◌}

-- ---- limits: a progress, the serials (all are below this), a circle and an interface's slots, a group's list and its stops

abbrev pub progress_limit : ℕ
progress_limit = 2 ^ 40

abbrev pub serial_limit : ℕ
serial_limit = 2 ^ 32

abbrev pub slot_limit : ℕ
slot_limit = 64

abbrev pub circle_limit : ℕ
circle_limit = 64

abbrev pub group_limit : ℕ
group_limit = 128

-- ---- the numbers a call can answer

abbrev pub LINE : ℕ
LINE = 1

abbrev pub BROKEN : ℕ
BROKEN = 2

abbrev pub UNIT : ℕ
UNIT = 3

abbrev pub CHILD : ℕ
CHILD = 4

abbrev pub LENGTH : ℕ
LENGTH = 5

abbrev pub CIRCLE : ℕ
CIRCLE = 6

abbrev pub TOUCH : ℕ
TOUCH = 7

abbrev pub STALE : ℕ
STALE = 8

abbrev pub FOREIGN : ℕ
FOREIGN = 9

abbrev pub KIND : ℕ
KIND = 10

abbrev pub INSIDE : ℕ
INSIDE = 11

abbrev pub TOP : ℕ
TOP = 12

abbrev pub TWICE : ℕ
TWICE = 13

abbrev pub FULL : ℕ
FULL = 14

abbrev pub WORN : ℕ
WORN = 15

abbrev pub PAIR : ℕ
PAIR = 16

abbrev pub USED : ℕ
USED = 17

abbrev pub RANGE : ℕ
RANGE = 18

abbrev pub SMALL : ℕ
SMALL = 19

abbrev pub ROOM : ℕ
ROOM = 20

abbrev pub NOTHING : ℕ
NOTHING = 21

-- ---- of later requests, each given from when its request has landed; a call's list of tests says where they come among the others

abbrev pub SELF : ℕ
SELF = 22

abbrev pub FILE : ℕ
FILE = 23

abbrev pub UNSOUND : ℕ
UNSOUND = 24

abbrev pub BELOW : ℕ
BELOW = 25

abbrev pub MARK : ℕ
MARK = 26

abbrev pub STUCK : ℕ
STUCK = 27

abbrev pub SHORT : ℕ
SHORT = 28
