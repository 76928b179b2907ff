-- The calls that build virtual processors as decisions over the words that they are told.
use Rattle.std.specs.Prelude.{ℕ, Some, List, [], ◌∷◌}
use Rattle.td_words.specs.declared.names.PageKind.TheVariants as kind
use Rattle.td_words.specs.declared.names.OpState.{OpState}
use Rattle.td_words.specs.declared.names.OpState.TheVariants as op
use Rattle.td_words.specs.declared.names.VcpuState.TheVariants as vcpu
use Rattle.td_words.specs.declared.names.Mode.TheVariants.{Shared, Exclusive}
use Rattle.td_words.specs.declared.names.LimitName.TheVariants.{Vcpus}
use Rattle.td_words.specs.declared.machines.Machine.{Machine}
use Rattle.td_words.specs.declared.places.TheConstants.{TDCS_VP_COUNT, TDCS_VPS, TDCS_VPS_EXPECTED, VP_INDEX, VP_STATE, VP_REGISTERS}
use Rattle.td_words.specs.declared.refusals.Status.TheVariants.{PageMetadataIncorrect, VcpuStateIncorrect, Limit}
use Rattle.td_words.specs.declared.replies.Value.TheVariants as value
use Rattle.td_words.specs.declared.replies.Reply.TheVariants.{Done}
use Rattle.td_words.specs.NameNumber.{vcpu_number}
use Rattle.td_words.specs.Place as place
use Rattle.flat_core.specs.Processor.{OfPage}
use Rattle.flat_core.specs.Conditions.{same_vp_state}
use Rattle.flat_core.specs.VpRows.{create_vp, initialize_vp}
use Rattle.word_rules.specs.Rules.{Whole}
use Rattle.leaf_engine.specs.declared.needs.Place.{Place}
use Rattle.leaf_engine.specs.Changes.{Change, Put}
use Rattle.leaf_engine.specs.Trees.{Tree, Lock, Load, needs, acts}
use Rattle.leaf_engine.specs.Means.{Task, OfCall}
use Rattle.leaf_parts.specs.declared.heads.Td.{Td}
use Rattle.leaf_parts.specs.declared.listed_pages.PageList.{PageList}
use Rattle.leaf_parts.specs.Arguments.{checked, two_pages}
use Rattle.leaf_parts.specs.Heads.{td_head_tree}
use Rattle.leaf_parts.specs.ListTrees.{listed_tree}
use Rattle.vcpu_control.specs.Words.{says_page_of, vcpu_told, has_room}

-- VP.INIT: the state's word is the act; then register 0
abbrev pub init_changes : (vp value : ℕ) → List Change
init_changes vp value =
    Put (place.Word vp VP_STATE) (vcpu_number vcpu.Ready)
    ∷ Put (place.Word vp VP_REGISTERS) value
    ∷ []

-- VP.INIT behind the beginning of its row
abbrev pub init_rest : (tdr vp x : ℕ) → Tree
init_rest tdr vp x =
    Lock (OfPage vp) (place.Lock vp) Exclusive
    (Load Whole (place.Pamt vp) (λ pamt.
    needs (says_page_of tdr kind.Tdvpr pamt) (PageMetadataIncorrect vp)
    (Load Whole (place.Word vp VP_STATE) (λ state.
    needs (same_vp_state (vcpu_told state) vcpu.Created) (VcpuStateIncorrect (vcpu_told state))
    (acts (Done value.Nothing) (init_changes vp x))))))

-- the TD's virtual processors, as TDCS lists them
abbrev pub vp_list : (tdcs : ℕ) → PageList
vp_list tdcs = record { kind = kind.Tdvpr; page = tdcs; first = TDCS_VPS; counted = TDCS_VP_COUNT; index = Some VP_INDEX }

-- VP.CREATE: there is room for another, and the page is a host page
abbrev pub create_room : (pages tdr tdcs : ℕ) → OpState → (page count expected : ℕ) → Tree
create_room pages tdr tdcs state page count expected = needs (has_room state expected count) (Limit Vcpus) (listed_tree (vp_list tdcs) pages tdr page count)

abbrev pub create_rest : (pages tdr : ℕ) → Td → (page : ℕ) → Tree
create_rest pages tdr td page =
    Load Whole (place.Word td.tdcs TDCS_VP_COUNT) (λ count.
    Load Whole (place.Word td.tdcs TDCS_VPS_EXPECTED) (λ expected. create_room pages tdr td.tdcs td.op page count expected))

abbrev pub create_tree : Machine → (tdr page : ℕ) → Tree
create_tree m tdr page = checked (two_pages m tdr page) (td_head_tree m.pages tdr Exclusive (op.Initialized ∷ op.MemoryImport ∷ []) (λ td. create_rest m.pages tdr td page))

abbrev pub vp_create_task : Place → (tdr page : ℕ) → Task
vp_create_task p tdr page = record { place = p; tree = create_tree p.machine tdr page; meaning = OfCall (create_vp p.machine tdr page) }

abbrev pub init_tree : Machine → (tdr vp x : ℕ) → Tree
init_tree m tdr vp x = checked (two_pages m tdr vp) (td_head_tree m.pages tdr Shared (op.Initialized ∷ []) (λ td. init_rest tdr vp x))

abbrev pub vp_init_task : Place → (tdr vp x : ℕ) → Task
vp_init_task p tdr vp x = record { place = p; tree = init_tree p.machine tdr vp x; meaning = OfCall (initialize_vp p.machine tdr vp x) }
